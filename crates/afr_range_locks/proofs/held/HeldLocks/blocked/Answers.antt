-- Where no lock is held, none is in the way.
use Rattle.std.proofs.Common.{refl}
use Rattle.afr_range_locks.proofs.GrantedLemmas.{granted-none}
use Rattle.afr_range_locks.proofs.held.HeldLocks.blocked.Goals as goal

pub returns-then-holds_none : goal.returns-then-holds_none
returns-then-holds_none g c = rw (← c.self.view_is, granted-none c.self.inside.next c.self.inside.locks.entries (c.holds_none.ensures c.if-holds_none.true)) refl
