-- A sorted list with the same texts is the texts in order.
use Rattle.std.proofs.Common.{◌≡◌, ◌∙◌, ℕ, suc, ◌+◌, Bool, true, false, not, ◌&&◌, List, [], ◌∷◌, if◌then◌else◌, map, refl, sym, ap, arith, get_or}
use Rattle.std.specs.List.{sum_by}
use Rattle.std.specs.List.Sorted.{IsPermutation, IsSortedBy}
use Rattle.std.specs.Ordering.{is_lt, nat_cmp}
use Rattle.std.specs.Cmp.Lexicographic.{slice_cmp}
use Rattle.std.proofs.lemmas.Bool.Decides.{nat_tests}
use Rattle.std.proofs.lemmas.Cmp.{same_from_slice_cmp}
use Rattle.std.proofs.lemmas.List.Sorted.{IsPermutation-map, sum_by-IsPermutation}
use Rattle.std.proofs.lemmas.List.Sums.{sum_by-cons}
use Rattle.std.proofs.lemmas.Bool.{not-false}
use Rattle.afr_model.specs.ReportReplies.{in_order, placed, precedes}

-- ---- an order of texts
is_below : (s t : List ℕ) → is_lt (slice_cmp nat_cmp s t) ≡ not (precedes t s)
is_below s t = same_from_slice_cmp nat_cmp is_lt (λ s t. not (precedes t s)) refl (λ _ _. refl) (λ _ _. refl) (λ x y xs ys o h. grind (arith, nat_tests)) s t (slice_cmp nat_cmp s t) refl

itself : (s : List ℕ) → precedes s s ≡ true
itself [] = refl
itself (x ∷ s) = let more = itself s in grind (arith, nat_tests)

other_way : (s t : List ℕ) → precedes s t ≡ false → precedes t s ≡ true
other_way [] t h = absurd (cc h)
other_way (x ∷ s) [] h = refl
other_way (x ∷ s) (y ∷ t) h = let more = other_way s t in grind (arith, nat_tests)

both : (s t : List ℕ) → precedes s t ≡ true → precedes t s ≡ true → s ≡ t
both [] [] h k = refl
both [] (y ∷ t) h k = absurd (cc k)
both (x ∷ s) [] h k = absurd (cc h)
both (x ∷ s) (y ∷ t) h k = let more = both s t in grind (arith, nat_tests)

chain : (s t u : List ℕ) → precedes s t ≡ true → precedes t u ≡ true → precedes s u ≡ true
chain [] t u h k = refl
chain (x ∷ s) [] u h k = absurd (cc h)
chain (x ∷ s) (y ∷ t) [] h k = absurd (cc k)
chain (x ∷ s) (y ∷ t) (z ∷ u) h k = let more = chain s t u in grind (arith, nat_tests)

later : (s t u : List ℕ) → precedes s t ≡ true → precedes s u ≡ false → precedes t u ≡ false
later s t u h k = by (precedes t u) refl
  where
    by : (b : Bool) → precedes t u ≡ b → precedes t u ≡ false
    by true e = e ∙ (sym (chain s t u h e) ∙ k)
    by false e = e

-- ---- texts in order
abbrev Ascends : List (List ℕ) → Type 0
Ascends [] = Unit {0}
Ascends (s ∷ []) = Unit {0}
Ascends (s ∷ t ∷ more) = (precedes s t ≡ true) × Ascends (t ∷ more)

rest_ascends : (s : List ℕ) (l : List (List ℕ)) → Ascends (s ∷ l) → Ascends l
rest_ascends s [] a = tt
rest_ascends s (t ∷ more) a = a.1

placed_behind : (s t : List ℕ) (l : List (List ℕ)) → precedes s t ≡ true → Ascends (s ∷ l) → Ascends (s ∷ placed t l)
placed_behind s t [] h a = (h, tt)
placed_behind s t (u ∷ more) h a = by (precedes t u) refl (λ back. placed_behind u t more back a.1)
  where
    by : (b : Bool) → precedes t u ≡ b → (precedes u t ≡ true → Ascends (u ∷ placed t more)) → Ascends (s ∷ (if b then t ∷ u ∷ more else u ∷ placed t more))
    by true e behind = (h, (e, a.1))
    by false e behind = (a.0, behind (other_way t u e))

placed_ascends : (s : List ℕ) (l : List (List ℕ)) → Ascends l → Ascends (placed s l)
placed_ascends s [] a = tt
placed_ascends s (t ∷ more) a = by (precedes s t) refl
  where
    by : (b : Bool) → precedes s t ≡ b → Ascends (if b then s ∷ t ∷ more else t ∷ placed s more)
    by true e = (e, a)
    by false e = placed_behind t s more (other_way s t e) a

order_ascends : (l : List (List ℕ)) → Ascends (in_order l)
order_ascends [] = tt
order_ascends (s ∷ more) = placed_ascends s (in_order more) (order_ascends more)

-- ---- how often a text is there
abbrev once : List ℕ → List ℕ → ℕ
once x s = if precedes s x && precedes x s then 1 else 0

abbrev counted : List ℕ → List (List ℕ) → ℕ
counted x l = sum_by (once x) l

counted_first : (x s : List ℕ) (l : List (List ℕ)) → counted x (s ∷ l) ≡ once x s + counted x l
counted_first x s l = sum_by-cons (once x) s l

counted_itself : (x : List ℕ) (l : List (List ℕ)) → counted x (x ∷ l) ≡ 1 + counted x l
counted_itself x l = let one : once x x ≡ 1 = rw (itself x) refl in omega (arith, one, counted_first x x l)

counted_ahead : (x s : List ℕ) (l : List (List ℕ)) → precedes s x ≡ false → Ascends (s ∷ l) → counted x (s ∷ l) ≡ 0
counted_ahead x s [] h a = let none : once x s ≡ 0 = rw h refl in omega (arith, none, counted_first x s [])
counted_ahead x s (t ∷ more) h a =
    let none : once x s ≡ 0 = rw h refl in
    omega (arith, none, counted_first x s (t ∷ more), counted_ahead x t more (later s t x a.0 h) a.1)

counted_placed : (x s : List ℕ) (l : List (List ℕ)) → counted x (placed s l) ≡ once x s + counted x l
counted_placed x s [] = counted_first x s []
counted_placed x s (t ∷ more) = by (precedes s t) (counted_placed x s more)
  where
    by : (b : Bool) → counted x (placed s more) ≡ once x s + counted x more → counted x (if b then s ∷ t ∷ more else t ∷ placed s more) ≡ once x s + counted x (t ∷ more)
    by true e = counted_first x s (t ∷ more)
    by false e = omega (arith, e, counted_first x t (placed s more), counted_first x t more)

counted_order : (x : List ℕ) (l : List (List ℕ)) → counted x (in_order l) ≡ counted x l
counted_order x [] = refl
counted_order x (s ∷ more) = omega (arith, counted_placed x s (in_order more), counted_order x more, counted_first x s more)

-- two lists in order that have each text as often are the same
one_order : (l m : List (List ℕ)) → Ascends l → Ascends m → ((x : List ℕ) → counted x l ≡ counted x m) → l ≡ m
one_order [] [] a b same = refl
one_order [] (t ∷ m) a b same = absurd (omega (arith, same t, counted_itself t m))
one_order (s ∷ l) [] a b same = absurd (omega (arith, same s, counted_itself s l))
one_order (s ∷ l) (t ∷ m) a b same = by (precedes s t) (precedes t s) refl refl (one_order l m (rest_ascends s l a) (rest_ascends t m b))
  where
    rests : s ≡ t → (x : List ℕ) → counted x l ≡ counted x m
    rests e x =
        let first : once x s ≡ once x t = ap (once x) e in
        omega (arith, first, same x, counted_first x s l, counted_first x t m)

    by : (p q : Bool) → precedes s t ≡ p → precedes t s ≡ q → (((x : List ℕ) → counted x l ≡ counted x m) → l ≡ m) → s ∷ l ≡ t ∷ m
    by true true h k more = let e = both s t h k in rw (e, more (rests e)) refl
    by true false h k more = absurd (omega (arith, same s, counted_itself s l, counted_ahead s t m k b))
    by false q h k more = absurd (omega (arith, same t, counted_itself t m, counted_ahead t s l h a))

-- ---- a sorted list
rest_sorted : {X : Type 0} (lt : X → X → Bool) (x : X) (l : List X) → IsSortedBy lt (x ∷ l) → IsSortedBy lt l
rest_sorted lt x l h k d low high = at (k + 1) (omega arith) (h (k + 1) d (omega arith) (omega (arith, high)))
  where
    at : (j : ℕ) → j ≡ suc k → lt (get_or (x ∷ l) (j + 1) d) (get_or (x ∷ l) j d) ≡ false → lt (get_or l (k + 1) d) (get_or l k d) ≡ false
    at j e found =
        let step : suc (k + 1) ≡ j + 1 = omega (arith, e) in
        let next : get_or (x ∷ l) (suc (k + 1)) d ≡ get_or (x ∷ l) (j + 1) d = ap (λ i. get_or (x ∷ l) i d) step in
        let here : get_or (x ∷ l) (suc k) d ≡ get_or (x ∷ l) j d = ap (λ i. get_or (x ∷ l) i d) (sym e) in
        rw (next, here) found

module _ {X : Type 0} (text : X → List ℕ) where
  sorted_ascends : (items : List X) → IsSortedBy (λ x y. is_lt (slice_cmp nat_cmp (text x) (text y))) items → Ascends (map text items)
  sorted_ascends [] h = tt
  sorted_ascends (x ∷ []) h = tt
  sorted_ascends (x ∷ y ∷ more) h =
      let first : is_lt (slice_cmp nat_cmp (text y) (text x)) ≡ false = h 0 x (omega arith) (omega arith) in
      (not-false (precedes (text x) (text y)) (sym (is_below (text y) (text x)) ∙ first), sorted_ascends (y ∷ more) (rest_sorted (λ x y. is_lt (slice_cmp nat_cmp (text x) (text y))) x (y ∷ more) h))

  pub sorted_in_order : (items sorted : List X) → IsPermutation items sorted → IsSortedBy (λ x y. is_lt (slice_cmp nat_cmp (text x) (text y))) sorted → map text sorted ≡ in_order (map text items)
  sorted_in_order items sorted moved order = one_order (map text sorted) (in_order (map text items)) (sorted_ascends sorted order) (order_ascends (map text items))
      (λ x. sum_by-IsPermutation (once x) (map text items) (map text sorted) (IsPermutation-map text items sorted moved) ∙ sym (counted_order x (map text items)))
