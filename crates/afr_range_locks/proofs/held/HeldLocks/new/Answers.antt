-- A table of no lock.
use Rattle.afr_range_locks.proofs.GrantedLemmas.{table_empty}
use Rattle.afr_range_locks.proofs.held.HeldLocks.new.Goals as goal

pub invariant_of-result : goal.invariant_of-result
invariant_of-result g c = table_empty g.A.Lockable.overlap g.A.Lockable.at _ c.new.ensures.empty
