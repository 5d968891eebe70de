-- The first line that is `end` ends the plan part.
use Rattle.std.proofs.Common.{sym, ◌∙◌, below_more, arith}
use Rattle.afr_cli.specs.Parts.{IsPlanPart}
use Rattle.afr_cli.proofs.PartLemmas.{end_has_room}
use Rattle.afr_cli.proofs.parts.plan_len.Goals as goal

pub returns-then-is_end_at-clause-part : goal.returns-then-is_end_at-clause-part
returns-then-is_end_at-clause-part c = IsPlanPart.UpToEnd c.loop-at.at (omega (arith, c.loop-at-test.true)) (sym c.is_end_at.ensures ∙ c.if-is_end_at.true) c.loop-at.invariant

pub returns-then-is_end_at-clause-room : goal.returns-then-is_end_at-clause-room
returns-then-is_end_at-clause-room c = end_has_room c.args.bytes.now c.loop-at.at (omega (arith, c.loop-at-test.true)) (sym c.is_end_at.ensures ∙ c.if-is_end_at.true)

pub loop-at-preserved : goal.loop-at-preserved
loop-at-preserved c = below_more _ _ c.loop-at.invariant (sym c.is_end_at.ensures ∙ c.if-is_end_at.false)

pub returns-clause-part : goal.returns-clause-part
returns-clause-part c = IsPlanPart.Whole (λ k lt. c.loop-at.invariant k (omega (arith, lt, c.loop-at-test.false)))
