use Rattle.std.proofs.Common.{◌∙◌}
use Rattle.afr_image.proofs.LogLemmas.{told_short, told_step_is}
use Rattle.afr_image.proofs.recorded.kept_step.Goals as goal

pub told_step-requires : goal.told_step-requires
told_step-requires c = told_short c.args.log.now.items c.args.at _ c.requires.short c.in-Some.ensures

pub returns-in-Some : goal.returns-in-Some
returns-in-Some c = λ line there. c.told_step.ensures ∙ told_step_is c.args.log.now.items c.args.at _ line c.in-Some.ensures there
