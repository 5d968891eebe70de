-- Each line of a volume has a step, and they are at most as many as its turns.
use Rattle.std.proofs.Common.{◌<◌, ◌^◌, ◌∙◌, ap, arith, length, map, subst, sym}
use Rattle.std.proofs.lemmas.List.{length-reverse}
use Rattle.std.proofs.lemmas.Result.{IfOk-weaker}
use Rattle.afr_plan.specs.declared.plan.Plan.{Plan}
use Rattle.afr_plan_print.specs.PrintedPlan.{plan_text}
use Rattle.afr_image.specs.Steps.{step_of}
use Rattle.afr_order.proofs.Replays.LineLemmas.{items_are, short_actors}
use Rattle.afr_volume.proofs.PlainLemmas.{plain_right}
use Rattle.afr_cli.proofs.RecordLemmas.{image_is}
use Rattle.afr_cli.proofs.recording.image_text.Goals as goal

pub print_run-requires : goal.print_run-requires
print_run-requires c = record {
  text = subst (λ (p : Plan). length (plan_text p) < 2 ^ 32) (sym c.plan.ensures) c.requires.printed;
  lines = omega (arith, c.every_line.ensures.room, c.every_line.ensures.turns, length-reverse c.lines.result.now.items, ap length c.lines.ensures);
  short = short_actors c.args.volume.now.plan c.args.volume.now.log c.lines.result.now.items c.every_line.ensures.few c.every_line.ensures.clients c.every_line.ensures.healers (plain_right c.args.volume.now c.requires.plain c.every_line.ensures.right).follows (plain_right c.args.volume.now c.requires.plain c.every_line.ensures.right).lawful c.lines.ensures;
}

pub returns : goal.returns
returns c = record {
  ok = IfOk-weaker c.print_run.result _ _ (λ bytes is. is ∙ image_is c.args.volume.now.plan c.args.volume.now.log _ _ c.plan.ensures (ap (map step_of) (items_are c.args.volume.now.log c.lines.result.now.items c.lines.ensures))) c.print_run.ensures.ok;
}
