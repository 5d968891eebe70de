use Rattle.afr_trace_follow.proofs.ChangeLemmas.{set_same}
use Rattle.afr_trace_follow.proofs.KeepingLemmas.{as_well, both}
use Rattle.afr_trace_follow.proofs.commands.is_set_attr.Goals as goal

pub returns-in-SetAttr : goal.returns-in-SetAttr
returns-in-SetAttr c =
    rw c.in-SetAttr.is
    (as_well c.both.result _ _ (set_same c.args.g c.in-SetAttr.gfid c.args.key c.in-SetAttr.named c.args.value c.in-SetAttr.given)
    (both c.both.result c.both-within.result c.same_value.result _ _ c.both.ensures (both c.both-within.result c.same_gfid.result c.same_key.result _ _ c.both-within.ensures c.same_gfid.ensures c.same_key.ensures) c.same_value.ensures))
