use Rattle.std.proofs.Common.{ℕ, arith, below_more, reverse}
use Rattle.afr_model.specs.Attempts.{IsCurrent}
use Rattle.afr_model.specs.Cells.{Byte}
use Rattle.afr_trace_safe.specs.Covered.{AreBytesCurrent}
use Rattle.afr_trace_safe.proofs.LoopLemmas.{for_all, not_all}
use Rattle.afr_trace_safe.proofs.current.are_bytes_current.Goals as goal

pub returns-then-not-is_byte_current : goal.returns-then-not-is_byte_current
returns-then-not-is_byte_current c =
    not_all c.is_byte_current.result (IsCurrent c.args.plan.now (reverse c.args.log.now) c.args.b.0 (Byte c.args.g c.loop-i.i)) (AreBytesCurrent c.args.plan.now (reverse c.args.log.now) c.args.b.0 c.args.g c.args.end) c.if-not-is_byte_current.true
    c.is_byte_current.ensures (λ all. all c.loop-i.i c.loop-i-test.true)

pub loop-i-preserved : goal.loop-i-preserved
loop-i-preserved c = below_more (λ (i : ℕ). IsCurrent c.args.plan.now (reverse c.args.log.now) c.args.b.0 (Byte c.args.g i)) c.loop-i.i c.loop-i.invariant (c.is_byte_current.ensures.0 c.if-not-is_byte_current.false)

pub returns : goal.returns
returns c = for_all (AreBytesCurrent c.args.plan.now (reverse c.args.log.now) c.args.b.0 c.args.g c.args.end) (λ i low. c.loop-i.invariant i (omega (arith, low, c.loop-i-test.false)))
