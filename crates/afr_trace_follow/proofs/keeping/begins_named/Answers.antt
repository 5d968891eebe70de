use Rattle.std.proofs.Common.{◌≡◌, false}
use Rattle.afr_object.specs.declared.change.Change.{Change}
use Rattle.afr_trace_follow.proofs.KeepingLemmas.{both, no_begin, of_change}
use Rattle.afr_trace_follow.specs.Keeping.{IsNamedAt}
use Rattle.afr_trace_follow.specs.Seen.{path_seen}
use Rattle.afr_trace_follow.proofs.keeping.begins_named.Goals as goal

pub returns-in-Some : goal.returns-in-Some
returns-in-Some c =
    of_change c.args.line.now (λ (x : Change). (c.args.begun ≡ false) × IsNamedAt (path_seen c.args.place) c.args.command.now c.args.position x) c.in-Some.change.now c.both.result c.in-Some.ensures
    (both c.both.result c.is_not-first.result c.is_named_at.result _ _ c.both.ensures c.is_not-first.ensures c.is_named_at.ensures)

pub returns-in-None : goal.returns-in-None
returns-in-None c = λ change e. no_begin c.args.line.now _ _ c.in-None.ensures change e
