use Rattle.afr_trace_follow.proofs.ChangeLemmas.{cut_same}
use Rattle.afr_trace_follow.proofs.KeepingLemmas.{as_well, both}
use Rattle.afr_trace_follow.proofs.commands.is_cut.Goals as goal

pub returns-in-Cut : goal.returns-in-Cut
returns-in-Cut c =
    rw c.in-Cut.is
    (as_well c.both.result _ _ (cut_same c.args.g c.in-Cut.gfid c.args.len c.in-Cut.left)
    (both c.both.result c.same_gfid.result c.same_place.result _ _ c.both.ensures c.same_gfid.ensures c.same_place.ensures))
