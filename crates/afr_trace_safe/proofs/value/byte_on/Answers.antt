use Rattle.std.proofs.Common.{arith}
use Rattle.afr_object.specs.Tables.{copy_at}
use Rattle.afr_trace_safe.proofs.CopyLemmas.{byte_beyond}
use Rattle.afr_trace_safe.proofs.value.byte_on.Goals as goal

pub returns-then-len-place : goal.returns-then-len-place
returns-then-len-place c = byte_beyond c.args.g c.args.place (copy_at c.args.g c.args.brick.now.objects) (omega (arith, c.len_of-len.ensures, c.if-len-place.true))
