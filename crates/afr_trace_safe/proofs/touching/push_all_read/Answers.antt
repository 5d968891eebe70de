use Rattle.std.proofs.Common.{◌++◌, None, refl, reverse}
use Rattle.afr_trace_safe.specs.Touched.{all_read_objects, read_objects}
use Rattle.afr_trace_safe.proofs.PushLemmas.{pushed, pushed_all}
use Rattle.afr_trace_safe.proofs.touching.push_all_read.Goals as goal

pub loop-read-preserved : goal.loop-read-preserved
loop-read-preserved c =
    pushed (read_objects c.args.plan.now (reverse c.args.log.now) c.args.b.0) (all_read_objects c.args.plan.now (reverse c.args.log.now) c.args.b.0) (λ x xs. refl) c.args.reads.now c.loop-read.read-index None c.loop-read.objects.items
    c.push_read.new.objects.items (c.args.objects.now.items ++ all_read_objects c.args.plan.now (reverse c.args.log.now) c.args.b.0 c.args.reads.now) c.loop-read-test.true c.in_ok-push_read.ensures c.loop-read.invariant

pub returns : goal.returns
returns c =
    pushed_all (all_read_objects c.args.plan.now (reverse c.args.log.now) c.args.b.0) refl c.args.reads.now c.loop-read.read-index c.loop-read.objects.items
    (c.args.objects.now.items ++ all_read_objects c.args.plan.now (reverse c.args.log.now) c.args.b.0 c.args.reads.now) c.loop-read-test.false c.loop-read.invariant
