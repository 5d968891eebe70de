-- Who doesn't wait may ask.
use Rattle.afr_live.proofs.shared.Shared.step.Goals as goal

pub take_turn-requires-clause-free : goal.take_turn-requires-clause-free
take_turn-requires-clause-free g c = c.waits.ensures c.requires.actor c.if-waits.false
