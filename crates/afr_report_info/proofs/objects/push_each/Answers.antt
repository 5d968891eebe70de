use Rattle.afr_base.specs.declared.ids.What.TheVariants.{File}
use Rattle.afr_report_info.proofs.EachLemmas.{few_step, lines_step, splits_step}
use Rattle.afr_report_info.proofs.objects.push_each.Goals as goal

pub loop-object-preserved : goal.loop-object-preserved
loop-object-preserved c = record {
  text =
      lines_step c.args.plan.now c.args.servers.now c.args.among c.args.objects.now c.loop-object.object-index (record { 0 = 0 }, File) c.loop-object-test.true
      _ _ _ c.in_ok-splits.ensures.ok c.loop-object.invariant.text;
  counted =
      splits_step c.args.plan.now c.args.servers.now c.args.among c.args.objects.now c.loop-object.object-index (record { 0 = 0 }, File) c.loop-object-test.true
      _ _ _ c.in_ok-splits.ensures.splits c.loop-object.invariant.counted;
  few = few_step _ _ _ c.loop-object.invariant.few c.in_ok-splits.ensures.few;
}
