-- The order of names, and that a merge keeps it.
use Rattle.std.proofs.Common.{◌≡◌, ℕ, zero, suc, ◌<◌, ◌≤◌, arith, List, [], ◌∷◌, Some, drop, length, slice_get}
use Rattle.std.proofs.lemmas.Bool.Decides.{nat_tests}
use Rattle.std.specs.BTreeMap.{is_at, insert_entry}
use Rattle.std.specs.List.{AllByRecursion}
use Rattle.std.specs.List.Sorted.{IsStrictlySortedBy}
use Rattle.std.specs.Map.{keys_of, lookup}
use Rattle.std.specs.Ordering.{MatchOrdering, match_ordering, nat_cmp}
use Rattle.std.specs.Cmp.{ranks}
use Rattle.std.specs.declared.cmp.Ordering.{Ordering}
use Rattle.std.specs.declared.cmp.Ordering.TheVariants.{Less, Equal, Greater}
use Rattle.afr_base.specs.declared.ids.NameId.{NameId}
use Rattle.afr_object.specs.Repairs.{higher, merged, merged_into}
use Rattle.afr_object.specs.Tables.{name_cmp}
use Rattle.afr_object.specs.declared.entry.Entry.{Entry}

-- names of a directory, each with its entry
abbrev pub NameTable : Type 0
NameTable = List (NameId × Entry)

-- the three ways in which a name stands to another
pub by_order : (n x : NameId) (P : NameTable → Type 0) (a b c : NameTable) → (n.0 < x.0 → P a) → (n.0 ≡ x.0 → P b) → (x.0 < n.0 → P c) → P (match_ordering (name_cmp n x) a b c)
by_order n x P a b c less same more = go (nat_cmp n.0 x.0) (ranks n.0 x.0)
  where
    go : (r : Ordering) → MatchOrdering r (n.0 < x.0) (n.0 ≡ x.0) (x.0 < n.0) → P (match_ordering r a b c)
    go Less h = less h
    go Equal h = same h
    go Greater h = more h

-- every name comes after this one
abbrev pub AreAfter : NameId → NameTable → Type 0
AreAfter n t = AllByRecursion (λ k. name_cmp n k ≡ Less) (keys_of t)

less_is : (n k : NameId) → n.0 < k.0 → name_cmp n k ≡ Less
less_is n k h = grind (arith, nat_tests, h)

pub is_less : (n k : NameId) → name_cmp n k ≡ Less → n.0 < k.0
is_less n k h = go (nat_cmp n.0 k.0) (ranks n.0 k.0) h
  where
    go : (r : Ordering) → MatchOrdering r (n.0 < k.0) (n.0 ≡ k.0) (k.0 < n.0) → r ≡ Less → n.0 < k.0
    go Less h e = h
    go Equal h e = absurd (cc)
    go Greater h e = absurd (cc)

after_lower : (n m : NameId) (t : NameTable) → n.0 < m.0 → AreAfter m t → AreAfter n t
after_lower n m [] low h = tt
after_lower n m (x ∷ t) low h = (less_is n x.0 (omega (arith, low, is_less m x.0 h.0)), after_lower n m t low h.1)

after_inserted : (m n : NameId) (e : Entry) (t : NameTable) → m.0 < n.0 → AreAfter m t → AreAfter m (insert_entry name_cmp t n e)
after_inserted m n e [] low h = (less_is m n low, tt)
after_inserted m n e (x ∷ t) low h =
    by_order n x.0 (AreAfter m) ((n, e) ∷ x ∷ t) ((x.0, e) ∷ t) (x ∷ insert_entry name_cmp t n e) (λ less. (less_is m n low, h)) (λ same. h) (λ more. (h.0, after_inserted m n e t low h.1))

-- the names rise, each once
abbrev pub AreRising : NameTable → Type 0
AreRising t = IsStrictlySortedBy name_cmp (keys_of t)

rising_inserted : (n : NameId) (e : Entry) (t : NameTable) → AreRising t → AreRising (insert_entry name_cmp t n e)
unfolding IsStrictlySortedBy
rising_inserted n e [] h = (tt, tt)
rising_inserted n e (x ∷ t) h =
    by_order n x.0 AreRising ((n, e) ∷ x ∷ t) ((x.0, e) ∷ t) (x ∷ insert_entry name_cmp t n e)
    (λ less. ((less_is n x.0 less, after_lower n x.0 t less h.0), h)) (λ same. h) (λ more. (after_inserted x.0 n e t more h.0, rising_inserted n e t h.1))

rising_into : (old names : NameTable) → AreRising old → AreRising (merged_into old names)
rising_into old [] h = h
rising_into old (x ∷ more) h = rising_inserted x.0 (higher x.1 (lookup (is_at (name_cmp x.0)) (merged_into old more))) (merged_into old more) (rising_into old more h)

-- a merged list is in order
pub rising_merged : (lists : List NameTable) → AreRising (merged lists)
unfolding IsStrictlySortedBy
rising_merged [] = tt
rising_merged (names ∷ more) = rising_into (merged more) names (rising_merged more)

-- a list that is in order from the next place on is so from this one, where the name here is below the next
pub rising_step : (t : NameTable) (k : ℕ) (x y : NameId × Entry) → slice_get t k ≡ Some x → slice_get t (suc k) ≡ Some y → x.0.0 < y.0.0 → AreRising (drop (suc k) t) → AreRising (drop k t)
unfolding IsStrictlySortedBy
rising_step [] k x y e f low h = absurd (cc)
rising_step (z ∷ []) zero x y e f low h = absurd (cc)
rising_step (z ∷ w ∷ t) zero x y e f low h =
    let first : z ≡ x = cc in
    let second : w ≡ y = cc in
    let lower : z.0.0 < w.0.0 = rw (first, second) low in
    ((less_is z.0 w.0 lower, after_lower z.0 w.0 t lower h.0), h)
rising_step (z ∷ t) (suc k) x y e f low h = rising_step t k x y e f low h

-- and so it is from the last place on
pub rising_last : (t : NameTable) (k : ℕ) → suc k ≡ length t → AreRising (drop k t)
unfolding IsStrictlySortedBy
rising_last [] k e = absurd (omega (arith, e))
rising_last (x ∷ []) zero e = (tt, tt)
rising_last (x ∷ y ∷ t) zero e = absurd (omega (arith, e))
rising_last (x ∷ t) (suc k) e = rising_last t k (omega (arith, e))

-- and past its end
pub rising_none : (t : NameTable) (k : ℕ) → length t ≤ k → AreRising (drop k t)
unfolding IsStrictlySortedBy
rising_none [] zero h = tt
rising_none [] (suc k) h = tt
rising_none (x ∷ t) zero h = absurd (omega (arith, h))
rising_none (x ∷ t) (suc k) h = rising_none t k (omega (arith, h))
