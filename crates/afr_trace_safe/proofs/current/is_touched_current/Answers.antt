use Rattle.std.proofs.Common.{◌≡◌, ◌∙◌, Some, ap, sym, subst, reverse}
use Rattle.std.proofs.lemmas.Option.{same_Some}
use Rattle.afr_lines.specs.Log.{change_at}
use Rattle.afr_model.specs.Attempts.{IsCurrent}
use Rattle.afr_model.specs.Cells.{Cell}
use Rattle.afr_trace_safe.specs.Covered.{IsTouchedCurrent, touched_in}
use Rattle.afr_trace_safe.specs.Seen.{cell_of}
use Rattle.afr_trace_safe.proofs.LoopLemmas.{same_fact}
use Rattle.afr_trace_safe.proofs.current.is_touched_current.Goals as goal

pub returns-in-Some : goal.returns-in-Some
returns-in-Some c =
    let is : touched_in c.args.kind (change_at c.args.attempt.position (reverse c.args.log.now)) ≡ Some (cell_of c.in-Some.cell) = ap (touched_in c.args.kind) (sym c.change_at.ensures) ∙ sym c.in-Some.ensures in
    same_fact c.is_current.result (IsCurrent c.args.plan.now (reverse c.args.log.now) c.args.b.0 (cell_of c.in-Some.cell)) (IsTouchedCurrent c.args.plan.now (reverse c.args.log.now) c.args.b.0 c.args.kind c.args.attempt)
    (λ h cell e. subst (λ (x : Cell). IsCurrent c.args.plan.now (reverse c.args.log.now) c.args.b.0 x) (same_Some (cell_of c.in-Some.cell) cell (sym is ∙ e)) h) (λ all. all (cell_of c.in-Some.cell) is) c.is_current.ensures
