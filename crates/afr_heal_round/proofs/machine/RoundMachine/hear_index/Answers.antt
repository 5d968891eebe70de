-- The round after the answer is at its brick, and its heal is sound.
use Rattle.afr_heal_round.proofs.Indexed.{indexed_within}
use Rattle.afr_heal_round.proofs.machine.RoundMachine.hear_index.Goals as goal

pub invariant_of-self : goal.invariant_of-self
invariant_of-self c = record {
  few = c.self.invariant.few;
  within = indexed_within c.args.heals c.args.answer.now c.self.inside.shape.n c.self.inside.round c.indexed.new.round c.indexed.ensures.round c.self.invariant.within;
  staged = c.indexed.ensures.staged;
}
