use Rattle.std.proofs.Common.{reverse}
use Rattle.afr_trace_safe.specs.Judged.{IsObjectSafe}
use Rattle.afr_trace_safe.specs.Touched.{AreObjectsSafe}
use Rattle.afr_trace_safe.proofs.LoopLemmas.{all_have, for_all, not_all, one_has, one_more_has}
use Rattle.afr_trace_safe.proofs.objects.are_objects_safe.Goals as goal

pub returns-then-not-yes : goal.returns-then-not-yes
returns-then-not-yes c =
    not_all c.in_ok-yes.yes _ (AreObjectsSafe c.args.plan.now (reverse c.args.log.now) c.args.objects.now) c.if-not-yes.true c.in_ok-yes.ensures
    (one_has (IsObjectSafe c.args.plan.now (reverse c.args.log.now)) c.args.objects.now c.loop-g.g-index (record { 0 = 0 }) c.loop-g-test.true)

pub loop-g-preserved : goal.loop-g-preserved
loop-g-preserved c = one_more_has (IsObjectSafe c.args.plan.now (reverse c.args.log.now)) c.args.objects.now c.loop-g.g-index (record { 0 = 0 }) c.loop-g-test.true c.loop-g.invariant (c.in_ok-yes.ensures.0 c.if-not-yes.false)

pub returns : goal.returns
returns c = for_all (AreObjectsSafe c.args.plan.now (reverse c.args.log.now) c.args.objects.now) (all_have (IsObjectSafe c.args.plan.now (reverse c.args.log.now)) c.args.objects.now c.loop-g.g-index c.loop-g-test.false c.loop-g.invariant)
