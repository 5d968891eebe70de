-- The locks of all others are left, and are a table as before.
use Rattle.std.proofs.Common.{rules, ◌≡◌, ◌∙◌, sym, ap, subst, not, eqb}
use Rattle.std.proofs.lemmas.Map.Made.{filter_same_pairs}
use Rattle.std.specs.List.{filter}
use Rattle.afr_lines.specs.Locks.{without_owner}
use Rattle.afr_range_locks.proofs.GrantedLemmas.{granted-filter, table_kept}
use Rattle.afr_range_locks.specs.Granted.{IsTable, granted}
use Rattle.afr_range_locks.proofs.held.HeldLocks.drop_owner.Goals as goal

pub returns : goal.returns
returns g c =
    let left : c.retain.new.self.entries ≡ filter (λ e. not (eqb e.1.owner.0 c.args.owner.0)) c.self.inside.locks.entries = filter_same_pairs _ _ _ (λ k x b w f' t. search rules) _ _ c.retain.ensures.filtered in
    ap (granted c.self.inside.next) left ∙ granted-filter (λ lock. not (eqb lock.owner.0 c.args.owner.0)) c.self.inside.next c.self.inside.locks.entries ∙ ap (without_owner c.args.owner) c.self.view_is

pub invariant_of-self : goal.invariant_of-self
invariant_of-self g c =
    let left : c.retain.new.self.entries ≡ filter (λ e. not (eqb e.1.owner.0 c.args.owner.0)) c.self.inside.locks.entries = filter_same_pairs _ _ _ (λ k x b w f' t. search rules) _ _ c.retain.ensures.filtered in
    subst (IsTable g.A.Lockable.overlap g.A.Lockable.at c.self.inside.next) (sym left)
    (table_kept g.A.Lockable.overlap g.A.Lockable.at c.self.inside.next (λ lock. not (eqb lock.owner.0 c.args.owner.0)) c.self.inside.locks.entries c.self.invariant)
