-- A lock that is granted has none in its way, and comes last.
use Rattle.std.proofs.Common.{rules, ◌≡◌, None}
use Rattle.afr_lines.specs.Locks.{first_conflict}
use Rattle.afr_range_locks.specs.Granted.{granted}
use Rattle.afr_range_locks.proofs.GrantedLemmas.{granting}
use Rattle.afr_range_locks.proofs.held.HeldLocks.lock.Goals as goal

pub invariant_of-self-in-None : goal.invariant_of-self-in-None
invariant_of-self-in-None g c =
    let free : first_conflict g.A.Lockable.overlap c.args.wanted (granted c.self.inside.next c.self.inside.locks.entries) ≡ None = search rules in
    (granting g.A.Lockable.at c.self.inside.next g.A.Lockable.overlap c.args.wanted c.self.inside.locks.entries _ _ c.self.invariant free c.in_ok-next-in-None.ensures.start c.in_ok-next-in-None.ensures.next c.in_ok-next-in-None.ensures.entries).0

pub returns-in_ok-next-in-None-clause-granted : goal.returns-in_ok-next-in-None-clause-granted
returns-in_ok-next-in-None-clause-granted g c =
    let free : first_conflict g.A.Lockable.overlap c.args.wanted (granted c.self.inside.next c.self.inside.locks.entries) ≡ None = search rules in
    let last = (granting g.A.Lockable.at c.self.inside.next g.A.Lockable.overlap c.args.wanted c.self.inside.locks.entries _ _ c.self.invariant free c.in_ok-next-in-None.ensures.start c.in_ok-next-in-None.ensures.next c.in_ok-next-in-None.ensures.entries).1 in
    λ is. (rw (← c.self.view_is) free, rw (← c.self.view_is) last)
