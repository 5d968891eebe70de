-- What the look at the late locks knows on its way.
use Rattle.std.proofs.Common.{◌≡◌, drop}
use Rattle.afr_lines.specs.Locks.{first_conflict}
use Rattle.afr_range_locks.proofs.late.blocked_late.Given as goal

-- none of those before is in the way
abbrev pub invariant-loop-lock : goal.invariant-loop-lock
invariant-loop-lock g l = first_conflict g.A.Lockable.overlap l.wanted l.late ≡ first_conflict g.A.Lockable.overlap l.wanted (drop l.lock-index l.late)
