-- All but the released lock are left, and are a table as before.
use Rattle.std.proofs.Common.{◌∙◌, sym, ap, subst, not}
use Rattle.afr_lines.specs.Locks.{is_lock, unlocked}
use Rattle.afr_range_locks.proofs.GrantedLemmas.{granted-filter, table_kept}
use Rattle.afr_range_locks.specs.Granted.{IsTable, granted}
use Rattle.afr_range_locks.proofs.held.HeldLocks.unlock_some.Goals as goal

pub returns : goal.returns
returns g c =
    ap (granted c.self.inside.next) c.release.ensures ∙ granted-filter (λ lock. not (is_lock g.A.Lockable.same c.args.held lock)) c.self.inside.next c.self.inside.locks.entries
    ∙ ap (unlocked g.A.Lockable.same c.args.held) c.self.view_is

pub invariant_of-self : goal.invariant_of-self
invariant_of-self g c =
    subst (IsTable g.A.Lockable.overlap g.A.Lockable.at c.self.inside.next) (sym c.release.ensures)
    (table_kept g.A.Lockable.overlap g.A.Lockable.at c.self.inside.next (λ lock. not (is_lock g.A.Lockable.same c.args.held lock)) c.self.inside.locks.entries c.self.invariant)
