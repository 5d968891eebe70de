use Rattle.std.proofs.Common.{ap, ◌∙◌}
use Rattle.afr_base.specs.declared.ids.What.TheVariants.{File}
use Rattle.afr_model.specs.ReportObjects.{splits_of}
use Rattle.afr_report_info.proofs.EachLemmas.{few_step, splits_step}
use Rattle.afr_report_info.proofs.counts.count_splits.Goals as goal

pub loop-object-preserved : goal.loop-object-preserved
loop-object-preserved c = record {
  counted =
      splits_step c.args.plan.now c.args.servers.now c.args.among c.args.objects.now c.loop-object.object-index (record { 0 = 0 }, File) c.loop-object-test.true
      _ _ _ (c.splits_at-splits.ensures.splits ∙ ap (splits_of c.args.plan.now) c.look.ensures) c.loop-object.invariant.counted;
  few = few_step _ _ _ c.loop-object.invariant.few c.splits_at-splits.ensures.few;
}
