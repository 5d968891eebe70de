-- A lock that none is in the way of comes last, or there is no memory for it.
use Rattle.std.proofs.Common.{◌∙◌}
use Rattle.std.specs.Result.{is_ok}
use Rattle.afr_range_locks.proofs.LateLemmas.{apart_after}
use Rattle.afr_range_locks.proofs.locked.LockTable.grant.Goals as goal

pub invariant_of-self-2 : goal.invariant_of-self-2
invariant_of-self-2 g c =
    apart_after g.A.Lockable.overlap c.args.wanted c.make_place.new.filed c.make_place.new.late.items _ _ (is_ok c.push.result) c.make_place.ensures c.self.invariant
    (rw (← c.self.view_is) at c.requires) c.push.ensures.items
