-- The actor in hand is one of the plan's.
use Rattle.std.proofs.Common.{◌∙◌, ◌+◌, arith, below_more, sym}
use Rattle.afr_cli.proofs.finished.are_done.Goals as goal

pub is_done-requires : goal.is_done-requires
is_done-requires c = record { actor = c.requires.actors c.loop-i.i (omega (arith, c.loop-i-test.true)) }

pub returns-then-not-is_done-clause-left : goal.returns-then-not-is_done-clause-left
returns-then-not-is_done-clause-left c = λ e. record { actor = c.args.first + c.loop-i.i; planned = c.requires.actors c.loop-i.i (omega (arith, c.loop-i-test.true)); left = sym c.is_done.ensures ∙ c.if-not-is_done.true }

pub loop-i-preserved : goal.loop-i-preserved
loop-i-preserved c = below_more _ _ c.loop-i.invariant (sym c.is_done.ensures ∙ c.if-not-is_done.false)
