-- All but the released lock are left of both parts, and are apart as before.
use Rattle.std.proofs.Common.{not}
use Rattle.afr_lines.specs.Locks.{is_lock}
use Rattle.afr_range_locks.proofs.LateLemmas.{apart_still, left_of_both}
use Rattle.afr_range_locks.proofs.locked.LockTable.unlock.Goals as goal

pub returns : goal.returns
returns g c = left_of_both (λ lock. not (is_lock g.A.Lockable.same c.args.held lock)) c.self.inside.filed c.self.inside.late.items _ _ _ c.self.view_is c.unlock.ensures c.release_late.ensures

pub invariant_of-self : goal.invariant_of-self
invariant_of-self g c = apart_still (λ lock. not (is_lock g.A.Lockable.same c.args.held lock)) g.A.Lockable.overlap c.self.inside.filed c.self.inside.late.items _ _ c.unlock.ensures c.release_late.ensures c.self.invariant
