use Rattle.std.proofs.Common.{◌∙◌, ℕ, Bool, [], ap, length, refl, reverse, sym}
use Rattle.std.proofs.lemmas.List.{length-reverse}
use Rattle.afr_model.specs.Cells.{Byte, IsByte}
use Rattle.afr_object.specs.Bytes.{byte_at}
use Rattle.afr_object.specs.Tables.{copy_at}
use Rattle.afr_trace_tables.specs.Plain.{plain_tables}
use Rattle.afr_trace_safe.specs.Attempts.{stands}
use Rattle.afr_trace_safe.proofs.CopyLemmas.{byte_value, value_plain}
use Rattle.afr_trace_safe.proofs.StandsLemmas.{current_is}
use Rattle.afr_trace_safe.proofs.current.is_byte_current.Goals as goal

pub returns : goal.returns
returns c =
    let p = c.args.plan.now in
    let log = reverse c.args.log.now in
    let cell = Byte c.args.g c.args.place in
    current_is p log c.args.b.0 c.args.g cell (IsByte c.byte_at.result) (IsByte c.byte_at-2.result) (length c.args.log.now) c.args.attempts.now c.stands.result refl (sym (length-reverse c.args.log.now))
    (ap (λ (n : ℕ). IsByte n) (c.byte_at.ensures ∙ ap (byte_at c.args.place) c.requires.here) ∙ byte_value c.args.g c.args.place (copy_at c.args.g ((plain_tables p log).now c.args.b.0)) ∙ value_plain p log c.args.b.0 cell)
    (ap (λ (n : ℕ). IsByte n) (c.byte_at-2.ensures ∙ ap (byte_at c.args.place) c.requires.opened) ∙ byte_value c.args.g c.args.place (copy_at c.args.g ((plain_tables p []).now c.args.b.0)) ∙ value_plain p [] c.args.b.0 cell)
    c.requires.attempts (c.stands.ensures ∙ ap (λ (f : Bool). stands log cell (IsByte c.byte_at.result) f c.args.attempts.now) c.same_value-same.ensures)
