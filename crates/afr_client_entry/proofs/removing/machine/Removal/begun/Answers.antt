use Rattle.std.proofs.Common.{◌≡◌, true, ap, sym, subst, ◌∙◌}
use Rattle.afr_discipline.specs.declared.register.Register.{Register}
use Rattle.afr_client_entry.specs.Removals.Removal.{Removing, is_beginning}
use Rattle.afr_client_entry.specs.Removals.Sound.{Sound}
use Rattle.afr_client_entry.specs.declared.removing.stage.RemovalStage.TheVariants.{Preparing}
use Rattle.afr_client_entry.proofs.Removals.KeptLemmas.{begins_sound}
use Rattle.afr_client_entry.proofs.removing.machine.Removal.begun.Goals as goal

pub invariant_of-self : goal.invariant_of-self
invariant_of-self c =
    let beginning : is_beginning c.self.inside.stage ≡ true = ap (λ (m : Removing). is_beginning m.stage) c.self.view_is ∙ sym c.is_beginning.ensures ∙ c.if-not-is_beginning.false in
    subst (λ (r : Register). Sound (record { change = c.self.inside.change; register = r; stage = Preparing; child = c.self.inside.child })) (sym c.note.ensures.value)
    (begins_sound (record { change = c.self.inside.change; register = c.self.inside.register; stage = c.self.inside.stage; child = c.self.inside.child }) c.self.invariant beginning c.args.at)
