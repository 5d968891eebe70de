-- The items of the rounds before the present one.
use Rattle.std.proofs.Common.{◌≡◌, ◌≤◌, ◌*◌}
use Rattle.afr_model.specs.Crawl.{lists_by}
use Rattle.afr_report.proofs.ItemLemmas.{first_items}
use Rattle.afr_report.proofs.workers.items.items_given.Given as goal

abbrev pub invariant-loop-round : goal.invariant-loop-round
invariant-loop-round l = record {
  items : l.items ≡ first_items l.round (lists_by l.volume.plan l.volume.log);
  few : l.items ≤ 18446744073709551616 * l.round;
}
