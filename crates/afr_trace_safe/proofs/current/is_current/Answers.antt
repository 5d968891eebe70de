use Rattle.std.proofs.Common.{◌∙◌, Bool, [], ap, length, reverse, sym}
use Rattle.std.proofs.lemmas.List.{length-reverse}
use Rattle.afr_model.specs.Cells.{object_of_cell, value_if}
use Rattle.afr_object.specs.State.{Copies}
use Rattle.afr_object.specs.Tables.{copy_at}
use Rattle.afr_trace_safe.specs.Attempts.{stands}
use Rattle.afr_trace_safe.specs.Seen.{cell_of, value_seen}
use Rattle.afr_trace_safe.proofs.CopyLemmas.{value_plain}
use Rattle.afr_trace_safe.proofs.StandsLemmas.{current_is}
use Rattle.afr_trace_safe.proofs.current.is_current.Goals as goal

pub returns : goal.returns
returns c =
    current_is c.args.plan.now (reverse c.args.log.now) c.args.b.0 c.args.g (cell_of c.args.cell) (value_seen c.in_ok-value.value) (value_seen c.in_ok-opening.opening) (length c.args.log.now) c.args.attempts.now c.stands.result c.requires.object
    (sym (length-reverse c.args.log.now))
    (c.in_ok-value.ensures ∙ ap (λ (t : Copies). value_if (cell_of c.args.cell) (copy_at (object_of_cell (cell_of c.args.cell)) t.objects)) c.tables.ensures ∙ value_plain c.args.plan.now (reverse c.args.log.now) c.args.b.0 (cell_of c.args.cell))
    (c.in_ok-opening.ensures ∙ ap (λ (t : Copies). value_if (cell_of c.args.cell) (copy_at (object_of_cell (cell_of c.args.cell)) t.objects)) c.tables-2.ensures ∙ value_plain c.args.plan.now [] c.args.b.0 (cell_of c.args.cell)) c.requires.attempts
    (c.stands.ensures ∙ ap (λ (f : Bool). stands (reverse c.args.log.now) (cell_of c.args.cell) (value_seen c.in_ok-value.value) f c.args.attempts.now) c.same_value-same.ensures)
