use Rattle.std.proofs.Common.{refl, reverse, sym}
use Rattle.std.proofs.lemmas.List.{length-reverse}
use Rattle.afr_trace_follow.proofs.FollowLemmas.{next_event, no_event}
use Rattle.afr_trace_follow.proofs.KeepingLemmas.{as_well, never}
use Rattle.afr_trace_follow.proofs.following.is_next_event.Goals as goal

pub returns-in-Some : goal.returns-in-Some
returns-in-Some c =
    as_well c.has_come.result _ _ (next_event c.args.plan.now c.args.event (reverse c.args.log.now) c.in-Some.next.now _ c.in-Some.ensures (sym (length-reverse c.args.log.now))) c.has_come.ensures

pub returns-in-None : goal.returns-in-None
returns-in-None c = never _ _ refl (no_event c.args.plan.now c.args.event (reverse c.args.log.now) c.in-None.ensures)
