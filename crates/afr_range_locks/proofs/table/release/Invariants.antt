-- What the release of a lock keeps while it takes equal ones out.
use Rattle.std.proofs.Common.{◌≡◌, ◌≤◌, true, not, length}
use Rattle.std.specs.List.{AllByRecursion, filter}
use Rattle.afr_lines.specs.Locks.{is_lock}
use Rattle.afr_range_locks.specs.Granted.{IsFiled}
use Rattle.afr_range_locks.proofs.table.release.Given as goal

-- all others are left, and no equal lock is left of a lower number
abbrev pub invariant-loop-key : goal.invariant-loop-key
invariant-loop-key g l = record {
  left : filter (λ e. not (is_lock g.A.Lockable.same l.held e.1)) l.locks.entries ≡ filter (λ e. not (is_lock g.A.Lockable.same l.fn.held e.1)) l.fn.locks.entries;
  filed : AllByRecursion (IsFiled g.A.Lockable.at l.next) l.locks.entries;
  later : AllByRecursion (λ e. is_lock g.A.Lockable.same l.held e.1 ≡ true → l.from ≤ e.0.grant) l.locks.entries;
  within : l.from ≤ l.next;
}

abbrev pub decreases-loop-key : goal.decreases-loop-key
decreases-loop-key g l = length l.locks.entries
