use Rattle.afr_workers.specs.Workshop.{IsKept}
use Rattle.afr_workers.proofs.ending.drain.Given as goal

abbrev pub invariant-loop : goal.invariant-loop
invariant-loop g l = IsKept l.fn.x l.x
