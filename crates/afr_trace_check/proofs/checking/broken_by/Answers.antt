use Rattle.std.proofs.Common.{reverse}
use Rattle.afr_trace_check.specs.Grounds.{IsGrounded}
use Rattle.afr_trace_check.specs.Honest.{IsHonestBySums}
use Rattle.afr_trace_check.proofs.FoundLemmas.{breaks_blamed, breaks_honest, never_if}
use Rattle.afr_trace_check.proofs.checking.broken_by.Goals as goal

pub returns-then-not-is_honest-clause-some : goal.returns-then-not-is_honest-clause-some
returns-then-not-is_honest-clause-some c = λ all.
    breaks_honest c.args.plan.now c.args.line.now (reverse c.args.log.now) all (c.is_following.ensures.0 c.if-not-is_following.false) (never_if c.is_honest.result (IsHonestBySums c.args.plan.now c.args.line.now (reverse c.args.log.now)) c.if-not-is_honest.true c.is_honest.ensures)

pub returns-then-not-is_blamed-clause-some : goal.returns-then-not-is_blamed-clause-some
returns-then-not-is_blamed-clause-some c = λ all.
    breaks_blamed c.args.plan.now c.args.line.now (reverse c.args.log.now) all (c.is_following.ensures.0 c.if-not-is_following.false) (c.is_honest.ensures.0 c.if-not-is_honest.false) (never_if c.is_blamed.result (IsGrounded c.args.plan.now c.args.line.now (reverse c.args.log.now)) c.if-not-is_blamed.true c.is_blamed.ensures)
