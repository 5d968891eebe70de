use Rattle.afr_trace_follow.proofs.KeepingLemmas.{both}
use Rattle.afr_trace_follow.proofs.following.is_pair.Goals as goal

pub returns : goal.returns
returns c = both c.both.result c.same_actor-one.result c.same_brick.result _ _ c.both.ensures c.same_actor-one.ensures c.same_brick.ensures
