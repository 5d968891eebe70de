use Rattle.afr_trace_follow.proofs.ChangeLemmas.{write_same}
use Rattle.afr_trace_follow.proofs.KeepingLemmas.{as_well, both}
use Rattle.afr_trace_follow.proofs.commands.is_write.Goals as goal

pub returns-in-Write : goal.returns-in-Write
returns-in-Write c =
    rw c.in-Write.is
    (as_well c.both.result _ _ (write_same c.args.g c.in-Write.gfid c.args.at c.in-Write.from c.args.bytes.now _)
    (both c.both.result c.both-within.result c.same_bytes.result _ _ c.both.ensures (both c.both-within.result c.same_gfid.result c.same_place.result _ _ c.both-within.ensures c.same_gfid.ensures c.same_place.ensures) c.same_bytes.ensures))
