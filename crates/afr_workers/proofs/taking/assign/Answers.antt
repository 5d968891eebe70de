use Rattle.std.proofs.Common.{inl, inr, refl}
use Rattle.afr_workers.proofs.taking.assign.Goals as goal

pub returns-in-Ok-clause-gives : goal.returns-in-Ok-clause-gives
returns-in-Ok-clause-gives c = inl (c.in-Ok.ensures.ok, c.requires.idle)

pub returns-in-Err-clause-gives : goal.returns-in-Err-clause-gives
returns-in-Err-clause-gives c = inr (c.in-Err.ensures.err, inr (inr refl))
