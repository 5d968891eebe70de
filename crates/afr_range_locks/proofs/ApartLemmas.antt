-- Locks stay apart where one is granted that none is in the way of, and where some are taken away.
use Rattle.std.proofs.Common.{◌≡◌, ℕ, zero, suc, ◌<◌, Bool, true, false, List, [], ◌∷◌, ◌++◌, refl, sym, arith, length, Some, None, if◌then◌else◌, get_or}
use Rattle.std.specs.List.{filter}
use Rattle.std.proofs.lemmas.Option.{none-some}
use Rattle.std.proofs.lemmas.List.Kept.{AllPairs-filter}
use Rattle.std.proofs.lemmas.List.Quantifiers.{all_pairs_push}
use Rattle.afr_lines.specs.Locks.{AreApart, conflicts, first_conflict}
use Rattle.afr_lines.specs.declared.lock.HeldLock.{HeldLock}

module _ {A : Type 0} (overlap : A → A → Bool) (wanted : HeldLock A) where
  -- where the first lock isn't in the way and none of the others is, none is
  none_of : (lock : HeldLock A) (more : List (HeldLock A)) (rest : (k : ℕ) (d : HeldLock A) → first_conflict overlap wanted more ≡ None → k < length more → conflicts overlap wanted (get_or more k d) ≡ false) (found : Bool)
      → conflicts overlap wanted lock ≡ found → (if found then Some lock.owner else first_conflict overlap wanted more) ≡ None → (k : ℕ) (d : HeldLock A) → k < length (lock ∷ more) → conflicts overlap wanted (get_or (lock ∷ more) k d) ≡ false
  none_of lock more rest true e free k d small = absurd (none-some lock.owner (sym free))
  none_of lock more rest false e free zero d small = e
  none_of lock more rest false e free (suc k) d small = rest k d free (omega (arith, small))

  -- where no conflict is found, no held lock conflicts
  none_conflicts : (locks : List (HeldLock A)) (k : ℕ) (d : HeldLock A) → first_conflict overlap wanted locks ≡ None → k < length locks → conflicts overlap wanted (get_or locks k d) ≡ false
  none_conflicts [] k d free small = absurd (omega (arith, small))
  none_conflicts (lock ∷ more) k d free small = none_of lock more (none_conflicts more) (conflicts overlap wanted lock) refl free k d small

  pub pushed : (locks : List (HeldLock A)) → AreApart overlap locks → first_conflict overlap wanted locks ≡ None → AreApart overlap (locks ++ wanted ∷ [])
  pushed locks apart free = all_pairs_push (λ earlier later. conflicts overlap later earlier ≡ false) locks wanted apart (λ k d small. none_conflicts locks k d free small)

-- locks that are apart stay apart where some are taken away
pub left_over : {A : Type 0} (overlap : A → A → Bool) (keep : HeldLock A → Bool) (locks : List (HeldLock A)) → AreApart overlap locks → AreApart overlap (filter keep locks)
left_over overlap keep locks apart = AllPairs-filter (λ earlier later. conflicts overlap later earlier ≡ false) keep locks apart
