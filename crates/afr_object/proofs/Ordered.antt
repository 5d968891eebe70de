-- Entries that are put before those that come after them.
use Rattle.std.proofs.Common.{◌≡◌, ℕ, suc, zero, List, [], ◌∷◌, Some, drop, refl, slice_get}
use Rattle.std.specs.BTreeMap.{insert_entry}
use Rattle.std.specs.List.Sorted.{IsStrictlySortedBy}
use Rattle.std.specs.Map.{keys_of}
use Rattle.std.specs.declared.cmp.Ordering.{Ordering}

-- In a list in order, an entry that is put into those after it stands before them.
pub put_before : {K X : Type 0} (cmp : K → K → Ordering) (es : List (K × X)) (k : ℕ) (x : K × X) → IsStrictlySortedBy cmp (keys_of es) → slice_get es k ≡ Some x → insert_entry cmp (drop (suc k) es) x.0 x.1 ≡ drop k es
unfolding IsStrictlySortedBy
put_before cmp [] k x h e = absurd (cc)
put_before cmp (y ∷ []) zero x h e = let same : y ≡ x = cc in rw (← same) refl
put_before cmp (y ∷ z ∷ es) zero x h e = let same : y ≡ x = cc in rw (← same, h.0.0) refl
put_before cmp (y ∷ es) (suc k) x h e = put_before cmp es k x h.1 e
