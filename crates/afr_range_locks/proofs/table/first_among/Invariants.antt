-- What the look at all held locks for an equal one knows on its way.
use Rattle.std.proofs.Common.{◌≡◌}
use Rattle.std.specs.List.{AllByRecursion}
use Rattle.afr_range_locks.specs.Granted.{IsFiled, at_place, first_equal}
use Rattle.afr_range_locks.proofs.table.first_among.Given as goal

-- the first equal lock is among those that are left, each of which stands under its key
abbrev pub invariant-loop-key : goal.invariant-loop-key
invariant-loop-key g l = record {
  first : first_equal g.A.Lockable.same l.held (at_place l.held.domain (g.A.Lockable.at l.held.area) l.from l.next l.key-iterator) ≡ first_equal g.A.Lockable.same l.fn.held (at_place l.fn.held.domain (g.A.Lockable.at l.fn.held.area) l.fn.from l.fn.next l.fn.locks.entries);
  filed : AllByRecursion (IsFiled g.A.Lockable.at l.next) l.key-iterator;
}
