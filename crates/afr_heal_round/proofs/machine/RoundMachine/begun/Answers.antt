use Rattle.std.proofs.Common.{◌∙◌}
use Rattle.afr_heal_round.proofs.Shapes.{begins_part, begun_on, begun_still, shape_begun}
use Rattle.afr_heal_round.proofs.machine.RoundMachine.begun.Goals as goal
use Rattle.afr_heal_round.proofs.machine.RoundMachine.begun.Goals.{in-Healing, in_default}

pub begun-requires : goal.begun-requires
begun-requires c = begins_part c.in-Healing.heal (rw (← c.self.view_is, c.in-Healing.is) at c.requires)

pub invariant_of-self : goal.invariant_of-self
invariant_of-self c =
    elim c.match-self.branch [
      | in-Healing w ↦ rw w.self-inside-is (record {
        few = c.self.invariant.few;
        within = c.self.invariant.within;
        staged = (w.stays_sound.ensures, rw w.begun.ensures (shape_begun w.each_note_stands.ensures.shapes c.args.at w.in-Healing.heal) ∙ (rw w.in-Healing.is at c.self.invariant.staged).1);
      })
      | in_default w ↦ rw w.self-inside-is c.self.invariant
    ]

pub returns : goal.returns
returns c =
    elim c.match-self.branch [
      | in-Healing w ↦ rw (w.self-inside-is, ← c.self.view_is) (begun_on c.args.at c.self.inside.shape c.self.inside.round c.self.inside.stage w.in-Healing.heal w.begun.new.self w.in-Healing.is w.begun.ensures)
      | in_default w ↦ rw (w.self-inside-is, ← c.self.view_is) (begun_still c.args.at (record { shape = c.self.inside.shape; round = c.self.inside.round; stage = c.self.inside.stage }) w.in_default.not-Healing)
    ]
