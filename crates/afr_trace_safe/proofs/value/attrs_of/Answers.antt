use Rattle.std.proofs.Common.{◌∙◌, Err, ap}
use Rattle.afr_object.specs.Tables.{copy_at}
use Rattle.afr_trace_safe.proofs.CopyLemmas.{attrs_absent, attrs_read}
use Rattle.afr_trace_safe.proofs.value.attrs_of.Goals as goal

pub returns-in-Ok : goal.returns-in-Ok
returns-in-Ok c = attrs_read (copy_at c.args.g c.args.brick.now.objects) c.in-Ok.attrs c.in-Ok.ensures.ok

pub returns-in-Err-NoObject : goal.returns-in-Err-NoObject
returns-in-Err-NoObject c = c.new.ensures ∙ attrs_absent (copy_at c.args.g c.args.brick.now.objects) (c.in-Err-NoObject.ensures.absent.0 (ap Err c.in-Err-NoObject.field-0-is))
