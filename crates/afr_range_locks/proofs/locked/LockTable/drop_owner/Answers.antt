-- The locks of all others are left of both parts, and are apart as before.
use Rattle.std.proofs.Common.{not, eqb}
use Rattle.afr_range_locks.proofs.LateLemmas.{apart_still, left_of_both}
use Rattle.afr_range_locks.proofs.locked.LockTable.drop_owner.Goals as goal

pub returns : goal.returns
returns g c = left_of_both (λ lock. not (eqb lock.owner.0 c.args.owner.0)) c.self.inside.filed c.self.inside.late.items _ _ _ c.self.view_is c.drop_owner.ensures c.drop_late.ensures

pub invariant_of-self : goal.invariant_of-self
invariant_of-self g c = apart_still (λ lock. not (eqb lock.owner.0 c.args.owner.0)) g.A.Lockable.overlap c.self.inside.filed c.self.inside.late.items _ _ c.drop_owner.ensures c.drop_late.ensures c.self.invariant
