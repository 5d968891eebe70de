use Rattle.std.proofs.Common.{refl, ◌∙◌}
use Rattle.afr_image.proofs.LogLemmas.{step_is}
use Rattle.afr_image.proofs.recorded.step_at.Goals as goal

pub asked_step-requires : goal.asked_step-requires
asked_step-requires c = c.requires.short.each c.args.at _ (c.in-Some.ensures c.in-Some.by refl)

pub returns-in-Some : goal.returns-in-Some
returns-in-Some c = λ line e. c.asked_step.ensures ∙ step_is c.args.log.now.items c.args.at _ line (c.in-Some.ensures c.in-Some.by refl) e
