-- The table keeps it.
use Rattle.std.proofs.Common.{subst}
use Rattle.afr_lines.specs.Locks.{AreApart}
use Rattle.afr_range_locks.proofs.locked.LockTable.every_pair.Goals as goal

pub returns : goal.returns
returns g c = subst (AreApart g.A.Lockable.overlap) c.self.view_is c.self.invariant
