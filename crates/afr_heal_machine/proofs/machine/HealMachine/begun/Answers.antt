use Rattle.std.proofs.Common.{◌≡◌, subst, sym}
use Rattle.afr_discipline.specs.declared.register.Register.{Register}
use Rattle.afr_heal.specs.Engine.{Begins}
use Rattle.afr_heal_machine.specs.Healing.{Healing, IsHealing, coming}
use Rattle.afr_heal_machine.proofs.machine.HealMachine.begun.Goals as goal

pub invariant_of-self : goal.invariant_of-self
invariant_of-self c =
    subst (λ (register : Register). IsHealing (record { gfid = c.self.inside.gfid; kind = c.self.inside.kind; register = register; source = c.self.inside.source; outcome = c.self.inside.outcome; contents = c.self.inside.contents })) (sym c.note.ensures.value)
    (c.a_heal_stays_sound.ensures.begun (record { gfid = c.self.inside.gfid; kind = c.self.inside.kind; register = c.self.inside.register; source = c.self.inside.source; outcome = c.self.inside.outcome; contents = c.self.inside.contents }) c.args.at c.self.invariant
    (subst (λ (m : Healing). coming m ≡ Begins) (sym c.self.view_is) c.requires))
