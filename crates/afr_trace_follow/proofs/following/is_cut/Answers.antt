use Rattle.afr_trace_follow.proofs.FollowLemmas.{same_cut}
use Rattle.afr_trace_follow.proofs.KeepingLemmas.{as_well}
use Rattle.afr_trace_follow.proofs.following.is_cut.Goals as goal

pub returns-in-Cut : goal.returns-in-Cut
returns-in-Cut c = rw c.in-Cut.is (as_well c.is_pair.result _ _ (same_cut c.args.a c.in-Cut.actor c.args.b c.in-Cut.brick) c.is_pair.ensures)
