use Rattle.std.proofs.Common.{refl, reverse, sym}
use Rattle.std.proofs.lemmas.List.{length-reverse}
use Rattle.afr_trace_follow.proofs.FollowLemmas.{later_event, none_later}
use Rattle.afr_trace_follow.proofs.KeepingLemmas.{as_well}
use Rattle.afr_trace_follow.proofs.following.none_due.Goals as goal

pub returns-in-Some : goal.returns-in-Some
returns-in-Some c =
    as_well c.is_later.result _ _ (later_event c.args.plan.now (reverse c.args.log.now) c.in-Some.next.now _ c.in-Some.ensures (sym (length-reverse c.args.log.now))) c.is_later.ensures

pub returns-in-None : goal.returns-in-None
returns-in-None c = (λ yes. none_later c.args.plan.now (reverse c.args.log.now) c.in-None.ensures, λ k. refl)
