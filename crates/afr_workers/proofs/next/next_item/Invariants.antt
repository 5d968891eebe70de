use Rattle.std.proofs.Common.{◌≡◌}
use Rattle.afr_model.specs.Crawl.{lists_by}
use Rattle.afr_workers.specs.Cursor.{items_before}
use Rattle.afr_workers.proofs.next.next_item.Given as goal

abbrev pub invariant-loop-round : goal.invariant-loop-round
invariant-loop-round l = items_before l.round l.at (lists_by l.volume.plan l.volume.log) ≡ items_before l.from_round l.from_at (lists_by l.volume.plan l.volume.log)
