use Rattle.afr_trace_follow.proofs.HealLemmas.{pair_due}
use Rattle.afr_trace_follow.proofs.KeepingLemmas.{as_well, both}
use Rattle.afr_trace_follow.proofs.rounds.is_due.Goals as goal

pub returns-in-Some : goal.returns-in-Some
returns-in-Some c =
    rw c.in-Some.is
    (as_well c.both.result _ _ (pair_due c.in-Some.object c.args.g c.in-Some.within c.args.kind)
    (both c.both.result c.same_gfid.result c.same_kind.result _ _ c.both.ensures c.same_gfid.ensures c.same_kind.ensures.same))
