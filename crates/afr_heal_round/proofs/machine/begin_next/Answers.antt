-- The heal that begins is of the volume of the one in whose place it stands.
use Rattle.std.proofs.Common.{◌∙◌, ap}
use Rattle.afr_base.specs.declared.ids.Shape.{Shape}
use Rattle.afr_heal_machine.specs.Healing.{Healing as Heal, heal_from}
use Rattle.afr_heal_round.specs.declared.stage.RoundStage.TheVariants.{Healing}
use Rattle.afr_heal_round.proofs.Shapes.{at_heal}
use Rattle.afr_heal_round.proofs.machine.begin_next.Goals as goal

pub returns-in-Healing-clause-stage : goal.returns-in-Healing-clause-stage
returns-in-Healing-clause-stage c = ap Healing (c.begin_again.ensures ∙ ap (λ (shape : Shape). heal_from shape c.args.gfid c.args.kind) (rw c.in-Healing.is at c.requires.staged).1)

pub returns-in-Healing-clause-staged : goal.returns-in-Healing-clause-staged
returns-in-Healing-clause-staged c = (c.stays_sound.ensures, ap (λ (m : Heal). m.register.shape) c.begin_again.ensures ∙ (rw c.in-Healing.is at c.requires.staged).1)

pub returns-in_default : goal.returns-in_default
returns-in_default c = absurd (at_heal c.args.stage.now c.requires.healing c.in_default.not-Healing)
