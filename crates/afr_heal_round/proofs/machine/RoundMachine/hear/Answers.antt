use Rattle.std.proofs.Common.{◌∙◌, refl}
use Rattle.afr_heal_round.proofs.Shapes.{line_asks, shape_heard}
use Rattle.afr_heal_round.proofs.machine.RoundMachine.hear.Goals as goal

pub hear-requires-clause-asked : goal.hear-requires-clause-asked
hear-requires-clause-asked g c = line_asks c.in-Healing.heal c.args.brick c.args.request.now (rw (← c.self.view_is, c.in-Healing.is) at c.requires.asked)

pub invariant_of-self-in-Healing : goal.invariant_of-self-in-Healing
invariant_of-self-in-Healing g c = record {
  few = c.self.invariant.few;
  within = c.self.invariant.within;
  staged = (c.stays_sound.ensures, shape_heard c.each_note_stands.ensures.shapes _ _ _ _ _ _ c.hear.ensures ∙ (rw c.in-Healing.is at c.self.invariant.staged).1);
}

pub returns-in-Healing : goal.returns-in-Healing
returns-in-Healing g c = rw (← c.self.view_is, c.in-Healing.is) (c.hear.new.self, c.hear.ensures, refl)

pub returns-in-Over : goal.returns-in-Over
returns-in-Over g c = absurd (rw (← c.self.view_is, c.in-Over.is) at c.requires.can)
