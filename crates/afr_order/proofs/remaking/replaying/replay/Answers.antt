use Rattle.afr_order.proofs.remaking.replaying.replay.Goals as goal

pub replay_steps-requires-clause-room : goal.replay_steps-requires-clause-room
replay_steps-requires-clause-room g c = rw c.as_slice.ensures c.requires.room

pub returns-clause-same : goal.returns-clause-same
returns-clause-same g c = rw c.as_slice.ensures at c.replay_steps.ensures.same

pub returns-clause-steps : goal.returns-clause-steps
returns-clause-steps g c = rw c.as_slice.ensures at c.replay_steps.ensures.steps

pub returns-clause-differs : goal.returns-clause-differs
returns-clause-differs g c = rw c.as_slice.ensures at c.replay_steps.ensures.differs
