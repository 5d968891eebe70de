-- What the look at all held locks knows on its way.
use Rattle.std.proofs.Common.{◌≡◌}
use Rattle.afr_range_locks.specs.Granted.{earlier, first_granted}
use Rattle.afr_range_locks.proofs.table.first_of_all.Given as goal

-- the earliest of what was found and of what is left is the earliest of all
abbrev pub invariant-loop-key : goal.invariant-loop-key
invariant-loop-key g l = earlier l.found (first_granted g.A.Lockable.overlap l.wanted l.key-iterator) ≡ first_granted g.A.Lockable.overlap l.fn.wanted l.fn.locks.entries
