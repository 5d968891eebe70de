use Rattle.std.proofs.Common.{◌∙◌, Err, ap}
use Rattle.afr_object.specs.Tables.{copy_at}
use Rattle.afr_trace_safe.proofs.CopyLemmas.{bytes_absent, bytes_read}
use Rattle.afr_trace_safe.proofs.value.bytes_of.Goals as goal

pub returns-in-Ok : goal.returns-in-Ok
returns-in-Ok c = bytes_read (copy_at c.args.g c.args.brick.now.objects) c.len_of-len.result c.in-Ok.bytes c.len_of-len.ensures c.in-Ok.ensures.ok

pub returns-in-Err-NoObject : goal.returns-in-Err-NoObject
returns-in-Err-NoObject c = c.new.ensures ∙ bytes_absent (copy_at c.args.g c.args.brick.now.objects) (c.in-Err-NoObject.ensures.absent.0 (ap Err c.in-Err-NoObject.field-0-is))
