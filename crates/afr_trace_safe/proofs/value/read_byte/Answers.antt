use Rattle.std.proofs.Common.{◌∙◌, ℕ, Err, ap}
use Rattle.afr_model.specs.Cells.{IsByte}
use Rattle.afr_object.specs.Bytes.{byte_at}
use Rattle.afr_object.specs.Tables.{copy_at}
use Rattle.afr_trace_safe.proofs.CopyLemmas.{byte_absent, byte_read}
use Rattle.afr_trace_safe.proofs.value.read_byte.Goals as goal

pub returns-in-Ok : goal.returns-in-Ok
returns-in-Ok c =
    ap (λ (n : ℕ). IsByte n) (c.byte_at.ensures ∙ ap (byte_at 0) c.as_slice.ensures) ∙ byte_read c.args.g c.args.place (copy_at c.args.g c.args.brick.now.objects) c.in-Ok.bytes c.in-Ok.ensures.ok

pub returns-in-Err-NoObject : goal.returns-in-Err-NoObject
returns-in-Err-NoObject c = byte_absent c.args.g c.args.place (copy_at c.args.g c.args.brick.now.objects) (c.in-Err-NoObject.ensures.absent.0 (ap Err c.in-Err-NoObject.field-0-is))
