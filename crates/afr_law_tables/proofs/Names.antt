-- Lists of names that rise, as directories have them.
use Rattle.std.proofs.Common.{◌≡◌, ℕ, ◌<◌, ◌≤◌, Bool, true, false, cond, refl, sym, ◌∙◌, subst, ap, arith, List, [], ◌∷◌, Option, Some, None, ◌⊎◌, inl, inr, ◌==◌, if◌then◌else◌}
use Rattle.std.proofs.lemmas.Bool.Decides.{eqb_tells, nat_tests}
use Rattle.std.specs.BTreeMap.{is_at, insert_entry}
use Rattle.std.specs.Map.{lookup, remove_entry}
use Rattle.std.specs.Ordering.{nat_cmp, MatchOrdering, match_ordering}
use Rattle.std.specs.Cmp.{ranks}
use Rattle.std.specs.declared.cmp.Ordering.{Ordering}
use Rattle.std.specs.declared.cmp.Ordering.TheVariants.{Less, Equal, Greater}
use Rattle.afr_base.specs.declared.ids.NameId.{NameId}
use Rattle.afr_object.specs.Tables.{name_cmp}
use Rattle.afr_object.specs.declared.entry.Entry.{Entry}

-- every name comes after number m
abbrev pub AreAbove : ℕ → List (NameId × Entry) → Type 0
AreAbove m [] = Unit {0}
AreAbove m (x ∷ t) = (m < x.0.0) × AreAbove m t

-- the names rise
abbrev pub AreRising : List (NameId × Entry) → Type 0
AreRising [] = Unit {0}
AreRising (x ∷ t) = AreAbove x.0.0 t × AreRising t

above_lower : (m k : ℕ) (t : List (NameId × Entry)) → k ≤ m → AreAbove m t → AreAbove k t
above_lower m k [] low h = tt
above_lower m k (x ∷ t) low h = (omega (arith, h.0, low), above_lower m k t low h.1)

pub same_name_of : (n k : NameId) → is_at (name_cmp n) k ≡ (n.0 == k.0)
same_name_of n k = grind (arith, nat_tests)

pub lookup_named : (n q : NameId) (e : Entry) (t : List (NameId × Entry)) → lookup (is_at (name_cmp q)) (insert_entry name_cmp t n e) ≡ (if n.0 == q.0 then Some e else lookup (is_at (name_cmp q)) t)
lookup_named n q e [] = rw (same_name_of q n) (grind (arith, nat_tests))
lookup_named n q e (x ∷ t) = grind (arith, nat_tests, same_name_of q n, same_name_of q x.0, lookup_named n q e t)

pub above_none : (q : NameId) (m : ℕ) (t : List (NameId × Entry)) → q.0 ≤ m → AreAbove m t → lookup (is_at (name_cmp q)) t ≡ None
above_none q m [] low h = refl
above_none q m (x ∷ t) low h = (let other : (q.0 == x.0.0) ≡ false = differ q.0 m x.0.0 low h.0 in rw (same_name_of q x.0, other) (above_none q m t low h.1))
  where
    differ : (q m k : ℕ) → q ≤ m → m < k → (q == k) ≡ false
    differ q m k a b = grind (arith, nat_tests)

name_is : (n q : NameId) → n.0 ≡ q.0 → n ≡ q
name_is n q e = ap (λ (k : ℕ). record { 0 = k }) e

-- a name that was taken out is gone, and each other leads where it led
pub lookup_removed : (n q : NameId) (t : List (NameId × Entry)) → AreRising t → lookup (is_at (name_cmp q)) (remove_entry (is_at (name_cmp n)) t) ≡ (if n.0 == q.0 then None else lookup (is_at (name_cmp q)) t)
lookup_removed n q [] once = go (n.0 == q.0)
  where
    none : Option Entry
    none = None

    go : (x : Bool) → none ≡ (if x then none else none)
    go true = refl
    go false = refl
lookup_removed n q (x ∷ t) once = rw (same_name_of n x.0) (step (eqb_tells n.0 x.0.0) (lookup_removed n q t once.1))
  where
    step : ((n.0 == x.0.0) ≡ true) × (n.0 ≡ x.0.0) ⊎ ((n.0 == x.0.0) ≡ false) × (n.0 ≡ x.0.0 → ⊥) → lookup (is_at (name_cmp q)) (remove_entry (is_at (name_cmp n)) t) ≡ (if n.0 == q.0 then None else lookup (is_at (name_cmp q)) t)
        → lookup (is_at (name_cmp q)) (cond (n.0 == x.0.0) t (x ∷ remove_entry (is_at (name_cmp n)) t)) ≡ (if n.0 == q.0 then None else lookup (is_at (name_cmp q)) (x ∷ t))
    step (inl s) more = rw s.0 (found (eqb_tells n.0 q.0))
      where
        found : ((n.0 == q.0) ≡ true) × (n.0 ≡ q.0) ⊎ ((n.0 == q.0) ≡ false) × (n.0 ≡ q.0 → ⊥) → lookup (is_at (name_cmp q)) t ≡ (if n.0 == q.0 then None else lookup (is_at (name_cmp q)) (x ∷ t))
        found (inl e) = rw e.0 (subst (λ (k : NameId). lookup (is_at (name_cmp k)) t ≡ None) (name_is x.0 q (sym s.1 ∙ e.1)) (above_none x.0 x.0.0 t (omega arith) once.0))
        found (inr e) = rw (e.0, same_name_of q x.0) (grind (arith, nat_tests, s.1, e.1))
    step (inr s) more = rw (s.0, same_name_of q x.0) (turned (n.0 == q.0) (q.0 == x.0.0) _ _ x.1 (both n.0 q.0 x.0.0 s.1) more)
      where
        both : (n q x : ℕ) → (n ≡ x → ⊥) → (n == q) ≡ true → (q == x) ≡ true → ⊥
        both n q x h e f = h (grind (arith, nat_tests))

        turned : (a b : Bool) (r l : Option Entry) (v : Entry) → (a ≡ true → b ≡ true → ⊥) → r ≡ (if a then None else l) → cond b (Some v) r ≡ (if a then None else cond b (Some v) l)
        turned true true r l v apart e = absurd (apart refl refl)
        turned true false r l v apart e = e
        turned false true r l v apart e = refl
        turned false false r l v apart e = e

pub by_order : (n x : ℕ) (P : List (NameId × Entry) → Type 0) (a b c : List (NameId × Entry)) → (n < x → P a) → (n ≡ x → P b) → (x < n → P c) → P (match_ordering (nat_cmp n x) a b c)
by_order n x P a b c less same more = go (nat_cmp n x) (ranks n x)
  where
    go : (r : Ordering) → MatchOrdering r (n < x) (n ≡ x) (x < n) → P (match_ordering r a b c)
    go Less h = less h
    go Equal h = same h
    go Greater h = more h

pub above_inserted : (m : ℕ) (n : NameId) (e : Entry) (t : List (NameId × Entry)) → m < n.0 → AreAbove m t → AreAbove m (insert_entry name_cmp t n e)
above_inserted m n e [] low h = (low, tt)
above_inserted m n e (x ∷ t) low h =
    by_order n.0 x.0.0 (AreAbove m) ((n, e) ∷ x ∷ t) ((x.0, e) ∷ t) (x ∷ insert_entry name_cmp t n e) (λ less. (low, h)) (λ same. h) (λ more. (h.0, above_inserted m n e t low h.1))

-- names that rise still do with one put in
pub rising_inserted : (n : NameId) (e : Entry) (t : List (NameId × Entry)) → AreRising t → AreRising (insert_entry name_cmp t n e)
rising_inserted n e [] h = (tt, tt)
rising_inserted n e (x ∷ t) h =
    by_order n.0 x.0.0 AreRising ((n, e) ∷ x ∷ t) ((x.0, e) ∷ t) (x ∷ insert_entry name_cmp t n e)
    (λ less. ((less, above_lower x.0.0 n.0 t (omega (arith, less)) h.0), h)) (λ same. h) (λ more. (above_inserted x.0.0 n e t more h.0, rising_inserted n e t h.1))

above_removed : (m : ℕ) (test : NameId → Bool) (t : List (NameId × Entry)) → AreAbove m t → AreAbove m (remove_entry test t)
above_removed m test [] h = tt
above_removed m test (x ∷ t) h = go (test x.0) (above_removed m test t h.1)
  where
    go : (hit : Bool) → AreAbove m (remove_entry test t) → AreAbove m (cond hit t (x ∷ remove_entry test t))
    go true more = h.1
    go false more = (h.0, more)

-- and with one taken out
pub rising_removed : (test : NameId → Bool) (t : List (NameId × Entry)) → AreRising t → AreRising (remove_entry test t)
rising_removed test [] h = tt
rising_removed test (x ∷ t) h = go (test x.0) (rising_removed test t h.1)
  where
    go : (hit : Bool) → AreRising (remove_entry test t) → AreRising (cond hit t (x ∷ remove_entry test t))
    go true more = h.1
    go false more = (above_removed x.0.0 test t h.0, more)
