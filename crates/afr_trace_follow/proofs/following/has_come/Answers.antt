use Rattle.afr_trace_follow.proofs.KeepingLemmas.{both}
use Rattle.afr_trace_follow.proofs.following.has_come.Goals as goal

pub returns : goal.returns
returns c = both c.both.result c.same_event-same.result c.is_within.result _ _ c.both.ensures c.same_event-same.ensures c.is_within.ensures
