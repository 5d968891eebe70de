use Rattle.std.proofs.Common.{◌∙◌, ap, arith, take}
use Rattle.std.proofs.lemmas.List.{take-replicate}
use Rattle.afr_plan_read.proofs.runs.Runs.begin.Goals as goal

pub returns : goal.returns
returns c = c.in_ok-bytes.ensures ∙ ap (take c.args.count) (c.run.view_is ∙ c.in_ok-run.ensures) ∙ take-replicate c.args.count _ c.args.byte (omega (arith, c.max.ensures))
