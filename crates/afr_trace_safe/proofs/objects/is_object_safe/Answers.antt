use Rattle.std.proofs.Common.{arith, below_more, reverse}
use Rattle.afr_trace_safe.specs.Judged.{IsBrickSafe, IsObjectSafe}
use Rattle.afr_trace_safe.proofs.LoopLemmas.{for_all, not_all}
use Rattle.afr_trace_safe.proofs.objects.is_object_safe.Goals as goal

pub returns-then-not-yes : goal.returns-then-not-yes
returns-then-not-yes c =
    not_all c.in_ok-yes.yes (IsBrickSafe c.args.plan.now (reverse c.args.log.now) c.args.g c.loop-b.b) (IsObjectSafe c.args.plan.now (reverse c.args.log.now) c.args.g) c.if-not-yes.true c.in_ok-yes.ensures (λ all. all c.loop-b.b c.loop-b-test.true)

pub loop-b-preserved : goal.loop-b-preserved
loop-b-preserved c = below_more (IsBrickSafe c.args.plan.now (reverse c.args.log.now) c.args.g) c.loop-b.b c.loop-b.invariant (c.in_ok-yes.ensures.0 c.if-not-yes.false)

pub returns : goal.returns
returns c = for_all (IsObjectSafe c.args.plan.now (reverse c.args.log.now) c.args.g) (λ b low. c.loop-b.invariant b (omega (arith, low, c.loop-b-test.false)))
