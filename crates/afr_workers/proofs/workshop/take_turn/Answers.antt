use Rattle.std.proofs.Common.{inl, inr}
use Rattle.afr_workers.proofs.workshop.take_turn.Goals as goal

pub returns-in-Ok-clause-turned : goal.returns-in-Ok-clause-turned
returns-in-Ok-clause-turned g c = inr (c.in-Ok.turned, c.in-Ok.ensures.ok, c.every_line.ensures.room)

pub returns-in-Err-clause-turned : goal.returns-in-Err-clause-turned
returns-in-Err-clause-turned g c = inl c.in-Err.ensures.err
