use Rattle.afr_trace_follow.proofs.FollowLemmas.{same_join}
use Rattle.afr_trace_follow.proofs.KeepingLemmas.{as_well}
use Rattle.afr_trace_follow.proofs.following.is_join.Goals as goal

pub returns-in-Join : goal.returns-in-Join
returns-in-Join c = rw c.in-Join.is (as_well c.is_pair.result _ _ (same_join c.args.a c.in-Join.actor c.args.b c.in-Join.brick) c.is_pair.ensures)
