-- What the search for an equal lock knows on its way.
use Rattle.std.proofs.Common.{◌≡◌}
use Rattle.afr_range_locks.specs.Granted.{at_place, first_equal}
use Rattle.afr_range_locks.proofs.table.first_at_place.Given as goal

-- the first equal lock is among those that are left
abbrev pub invariant-loop-key : goal.invariant-loop-key
invariant-loop-key g l = first_equal g.A.Lockable.same l.held l.key-iterator ≡ first_equal g.A.Lockable.same l.fn.held (at_place l.fn.held.domain (g.A.Lockable.at l.fn.held.area) l.fn.from l.fn.next l.fn.locks.entries)
