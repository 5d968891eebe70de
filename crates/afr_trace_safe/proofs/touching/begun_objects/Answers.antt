use Rattle.std.proofs.Common.{arith, ◌∙◌}
use Rattle.afr_trace_safe.specs.Touched.{begun_objects}
use Rattle.afr_trace_safe.proofs.PushLemmas.{begun_next, whole}
use Rattle.afr_trace_safe.proofs.touching.begun_objects.Goals as goal

pub loop-position-preserved : goal.loop-position-preserved
loop-position-preserved c = c.in_ok-add_begun.ensures ∙ begun_next c.args.a.0 c.args.log.now c.loop-position.position c.index-log-position.result c.loop-position.objects.items c.loop-position-test.true c.index-log-position.is c.loop-position.invariant

pub returns : goal.returns
returns c = whole (begun_objects c.args.a.0) c.args.log.now c.loop-position.position c.loop-position.objects.items (omega (arith, c.loop-position-test.false)) c.loop-position.invariant
