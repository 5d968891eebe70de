use Rattle.afr_workers.specs.Workshop.{IsKept}
use Rattle.afr_workers.proofs.ending.pass_clients.Given as goal

abbrev pub invariant-loop-i : goal.invariant-loop-i
invariant-loop-i g l = IsKept l.fn.x l.x
