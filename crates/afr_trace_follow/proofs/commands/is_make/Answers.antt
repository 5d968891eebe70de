use Rattle.afr_trace_follow.proofs.ChangeLemmas.{make_same}
use Rattle.afr_trace_follow.proofs.KeepingLemmas.{as_well, both}
use Rattle.afr_trace_follow.proofs.commands.is_make.Goals as goal

pub returns-in-Make : goal.returns-in-Make
returns-in-Make c =
    rw c.in-Make.is
    (as_well c.both.result _ _ (make_same c.args.dir c.in-Make.within c.args.name c.in-Make.named c.args.made c.in-Make.gfid c.args.what c.in-Make.kind)
    (both c.both.result c.both-there.result c.both-it.result _ _ c.both.ensures (both c.both-there.result c.same_gfid.result c.same_name.result _ _ c.both-there.ensures c.same_gfid.ensures c.same_name.ensures)
    (both c.both-it.result c.same_gfid-in-Make.result c.same_what.result _ _ c.both-it.ensures c.same_gfid-in-Make.ensures c.same_what.ensures.same)))
