-- A table of one lock at most: what is in the way of another, and what is left of it.
use Rattle.std.proofs.Common.{◌≡◌, ◌<◌, ◌≤◌, Bool, true, false, cond, not, List, [], ◌∷◌, length, refl, sym, ap, ◌∙◌, arith, Option, Some, None, IfSome, is_some, slice_get, if◌then◌else◌}
use Rattle.std.proofs.lemmas.Option.{same_Some}
use Rattle.std.specs.List.{filter}
use Rattle.afr_lines.specs.Locks.{is_lock}
use Rattle.afr_lines.specs.declared.lock.HeldLock.{HeldLock}
use Rattle.afr_range_locks.proofs.EarlierLemmas.{earlier_none}
use Rattle.afr_range_locks.specs.Granted.{conflict_at, first_equal, first_granted}
use Rattle.afr_range_locks.specs.declared.table.Key.{Key}

module _ {A : Type 0} (overlap : A → A → Bool) (wanted : HeldLock A) where
  -- the first conflict of one entry is its own
  pub of_one : (e : Key × HeldLock A) (entries : List (Key × HeldLock A)) → length entries ≤ 1 → slice_get entries 0 ≡ Some e → conflict_at overlap wanted e ≡ first_granted overlap wanted entries
  of_one e [] few is = absurd (cc)
  of_one e (x ∷ []) few is = ap (conflict_at overlap wanted) (sym (same_Some _ _ is)) ∙ sym (earlier_none (conflict_at overlap wanted x))
  of_one e (x ∷ y ∷ entries) few is = absurd (omega (arith, few))

module _ {A : Type 0} (same : A → A → Bool) (one : HeldLock A) where
  -- the first equal lock of one entry is its own
  pub equal_of_one : (e : Key × HeldLock A) (entries : List (Key × HeldLock A)) → length entries ≤ 1 → slice_get entries 0 ≡ Some e → (if is_lock same one e.1 then Some e.0 else None) ≡ first_equal same one entries
  equal_of_one e [] few is = absurd (cc)
  equal_of_one e (x ∷ []) few is = ap (λ (e : Key × HeldLock A). if is_lock same one e.1 then Some e.0 else None) (sym (same_Some _ _ is))
  equal_of_one e (x ∷ y ∷ entries) few is = absurd (omega (arith, few))

  -- where it is equal, the first entry is taken out, and nothing is left
  pub taken_out : (k : Key) (r : Option (Key × HeldLock A)) (entries after : List (Key × HeldLock A)) → length entries ≤ 1 → Some k ≡ first_equal same one entries → IfSome r (λ p. entries ≡ p ∷ after) → (0 < length entries → is_some r ≡ true)
      → after ≡ filter (λ e. not (is_lock same one e.1)) entries
  taken_out k r [] after few is out there = absurd (cc)
  taken_out k None (x ∷ []) after few is out there = absurd (cc (there (omega arith)))
  taken_out k (Some p) (x ∷ []) after few is out there = go (is_lock same one x.1) refl is
    where
      go : (b : Bool) → is_lock same one x.1 ≡ b → Some k ≡ (if b then Some x.0 else None) → after ≡ cond (not (is_lock same one x.1)) (x ∷ []) []
      go true e is = let o : x ∷ [] ≡ p ∷ after = out in let gone : after ≡ [] = cc in rw (e, gone) refl
      go false e is = absurd (cc)
  taken_out k r (x ∷ y ∷ entries) after few is out there = absurd (omega (arith, few))

  -- where it isn't, it is left
  pub left_in : (entries : List (Key × HeldLock A)) → length entries ≤ 1 → None ≡ first_equal same one entries → entries ≡ filter (λ e. not (is_lock same one e.1)) entries
  left_in [] few none = refl
  left_in (x ∷ []) few none = go (is_lock same one x.1) refl none
    where
      go : (b : Bool) → is_lock same one x.1 ≡ b → None ≡ (if b then Some x.0 else None) → x ∷ [] ≡ cond (not (is_lock same one x.1)) (x ∷ []) []
      go true e is = absurd (cc)
      go false e is = rw e refl
  left_in (x ∷ y ∷ entries) few none = absurd (omega (arith, few))
