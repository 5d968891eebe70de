use Rattle.afr_trace_follow.proofs.ChangeLemmas.{remove_same}
use Rattle.afr_trace_follow.proofs.KeepingLemmas.{as_well, both}
use Rattle.afr_trace_follow.proofs.commands.is_remove.Goals as goal

pub returns-in-Remove : goal.returns-in-Remove
returns-in-Remove c =
    rw c.in-Remove.is
    (as_well c.both.result _ _ (remove_same c.args.dir c.in-Remove.within c.args.name c.in-Remove.named c.args.what c.in-Remove.kind)
    (both c.both.result c.both-there.result c.same_what.result _ _ c.both.ensures (both c.both-there.result c.same_gfid.result c.same_name.result _ _ c.both-there.ensures c.same_gfid.ensures c.same_name.ensures) c.same_what.ensures.same))
