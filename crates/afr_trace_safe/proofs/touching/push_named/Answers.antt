use Rattle.std.proofs.Common.{◌++◌, reverse, refl}
use Rattle.afr_base.specs.declared.ids.NameId.{NameId}
use Rattle.afr_base.specs.declared.ids.What.TheVariants.{File}
use Rattle.afr_object.specs.declared.entry.Entry.{Entry}
use Rattle.afr_trace_safe.specs.Touched.{all_lacked, lacked}
use Rattle.afr_trace_safe.proofs.PushLemmas.{pushed, pushed_all}
use Rattle.afr_trace_safe.proofs.touching.push_named.Goals as goal

pub loop-x-preserved : goal.loop-x-preserved
loop-x-preserved c =
    pushed (λ (x : NameId × Entry). lacked c.args.plan.now (reverse c.args.log.now) c.args.b.0 x.1.gfid) (all_lacked c.args.plan.now (reverse c.args.log.now) c.args.b.0) (λ x xs. refl) c.args.names.now c.loop-x.x-index (record { 0 = 0 }, record { gfid = record { 0 = 0 }; what = File })
    c.loop-x.objects.items c.push_new.new.objects.items (c.args.objects.now.items ++ all_lacked c.args.plan.now (reverse c.args.log.now) c.args.b.0 c.args.names.now) c.loop-x-test.true c.in_ok-push_new.ensures c.loop-x.invariant

pub returns : goal.returns
returns c = pushed_all (all_lacked c.args.plan.now (reverse c.args.log.now) c.args.b.0) refl c.args.names.now c.loop-x.x-index c.loop-x.objects.items (c.args.objects.now.items ++ all_lacked c.args.plan.now (reverse c.args.log.now) c.args.b.0 c.args.names.now) c.loop-x-test.false c.loop-x.invariant
