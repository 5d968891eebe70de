-- Held locks in two parts, of which the second was granted last.
use Rattle.std.proofs.Common.{◌≡◌, ℕ, zero, suc, ◌+◌, ◌<◌, Bool, true, false, List, [], ◌∷◌, ◌++◌, refl, sym, ap, ap₂, subst, ◌∙◌, arith, length, Some, None, get_or, slice_get, if◌then◌else◌}
use Rattle.std.proofs.lemmas.List.{append_assoc, get_or_append_left, get_or_at, length-append}
use Rattle.std.proofs.lemmas.List.Elements.{filter-append}
use Rattle.std.proofs.lemmas.Option.{same_Some}
use Rattle.std.specs.List.{filter}
use Rattle.afr_base.specs.declared.ids.ActorId.{ActorId}
use Rattle.afr_lines.specs.Locks.{AreApart, conflicts, first_conflict}
use Rattle.afr_lines.specs.declared.lock.HeldLock.{HeldLock}
use Rattle.afr_range_locks.proofs.ApartLemmas.{left_over, pushed}
use Rattle.afr_range_locks.proofs.ConflictLemmas.{first_conflict-append}

module _ {A : Type 0} (overlap : A → A → Bool) (wanted : HeldLock A) where
  -- where none conflicts, none is found
  none_found : (locks : List (HeldLock A)) → ((k : ℕ) (d : HeldLock A) → k < length locks → conflicts overlap wanted (get_or locks k d) ≡ false) → first_conflict overlap wanted locks ≡ None
  none_found [] none = refl
  none_found (lock ∷ more) none = rw (none 0 lock (omega arith)) (none_found more (λ k d small. none (suc k) d (omega (arith, small))))

  -- what is in the way in the first part is found first
  pub found_first : (xs ys all : List (HeldLock A)) (owner : ActorId) → xs ++ ys ≡ all → Some owner ≡ first_conflict overlap wanted xs → Some owner ≡ first_conflict overlap wanted all
  found_first xs ys all owner same is = rw (← same, first_conflict-append overlap wanted xs ys, ← is) refl

  pub found_last : (xs ys all : List (HeldLock A)) → xs ++ ys ≡ all → None ≡ first_conflict overlap wanted xs → first_conflict overlap wanted ys ≡ first_conflict overlap wanted all
  found_last xs ys all same none = rw (← same, first_conflict-append overlap wanted xs ys, ← none) refl

module _ {A : Type 0} (overlap : A → A → Bool) where
  -- of locks that are apart none is in the way of a later one
  pub free_before : (xs : List (HeldLock A)) (y : HeldLock A) (ys : List (HeldLock A)) → AreApart overlap (xs ++ y ∷ ys) → first_conflict overlap y xs ≡ None
  free_before xs y ys apart =
      none_found overlap y xs (λ k d small.
      ap₂ (λ (a b : HeldLock A). conflicts overlap a b) (sym (get_or_at xs y ys d (length xs) refl)) (sym (get_or_append_left xs (y ∷ ys) d k small))
      ∙ apart k (length xs) d small (omega (arith, length-append xs (y ∷ ys))))

  -- nor of the first of the second part
  pub first_free : (xs ys : List (HeldLock A)) (y : HeldLock A) → slice_get ys 0 ≡ Some y → AreApart overlap (xs ++ ys) → first_conflict overlap y xs ≡ None
  first_free xs [] y is apart = absurd (cc)
  first_free xs (x ∷ ys) y is apart = let same : x ≡ y = same_Some _ _ is in subst (λ (z : HeldLock A). first_conflict overlap z xs ≡ None) same (free_before xs x ys apart)

  -- where none is in the way of a lock, it may come last, or not at all
  pub apart_after : (wanted : HeldLock A) (xs ys new all : List (HeldLock A)) (ok : Bool) → xs ++ ys ≡ all → AreApart overlap all → first_conflict overlap wanted all ≡ None → new ≡ (if ok then ys ++ wanted ∷ [] else ys) → AreApart overlap (xs ++ new)
  apart_after wanted xs ys new all true same apart free is =
      subst (AreApart overlap) (sym (ap (λ (l : List (HeldLock A)). xs ++ l) is ∙ sym (append_assoc xs ys (wanted ∷ [])) ∙ ap (λ (l : List (HeldLock A)). l ++ wanted ∷ []) same)) (pushed overlap wanted all apart free)
  apart_after wanted xs ys new all false same apart free is = subst (AreApart overlap) (sym (ap (λ (l : List (HeldLock A)). xs ++ l) is ∙ same)) apart

module _ {A : Type 0} (p : HeldLock A → Bool) where
  -- what is left of both parts is left of all
  pub left_of_both : (xs ys all xs_left ys_left : List (HeldLock A)) → xs ++ ys ≡ all → xs_left ≡ filter p xs → ys_left ≡ filter p ys → xs_left ++ ys_left ≡ filter p all
  left_of_both xs ys all xs_left ys_left same left right = rw (left, right, ← same) (sym (filter-append p xs ys))

  -- and stays apart
  pub apart_still : (overlap : A → A → Bool) (xs ys xs_left ys_left : List (HeldLock A)) → xs_left ≡ filter p xs → ys_left ≡ filter p ys → AreApart overlap (xs ++ ys) → AreApart overlap (xs_left ++ ys_left)
  apart_still overlap xs ys xs_left ys_left left right apart =
      subst (AreApart overlap) (sym (left_of_both xs ys (xs ++ ys) xs_left ys_left refl left right)) (left_over overlap p (xs ++ ys) apart)
