-- What stands at a place of a list, after a write too.
use Rattle.std.proofs.Common.{◌≡◌, ◌≢◌, ℕ, zero, suc, ◌<◌, ◌==◌, not, true, false, List, [], ◌∷◌, length, refl, sym, ap, subst, arith, ◌∙◌, ◌++◌, Some, slice_get, get_or, set, ◌⊎◌, inl, inr}
use Rattle.std.proofs.lemmas.Bool.Decides.{eqb_tells}
use Rattle.std.proofs.lemmas.Option.{slice_get-get_or, slice_get_within}

pub got_same : {A : Type 0} (xs : List A) (i : ℕ) (v : A) → i < length xs → slice_get (set xs i v) i ≡ Some v
got_same [] i v h = absurd (omega arith)
got_same (x ∷ xs) zero v h = refl
got_same (x ∷ xs) (suc i) v h = got_same xs i v (omega (arith, h))

pub got_other : {A : Type 0} (xs : List A) (i j : ℕ) (v : A) → j ≢ i → slice_get (set xs i v) j ≡ slice_get xs j
got_other [] i j v h = refl
got_other (x ∷ xs) zero zero v h = absurd (h refl)
got_other (x ∷ xs) zero (suc j) v h = refl
got_other (x ∷ xs) (suc i) zero v h = refl
got_other (x ∷ xs) (suc i) (suc j) v h = got_other xs i j v (λ e. h (ap suc e))

-- something stands at each place below the length
pub stands : {A : Type 0} (xs : List A) (i : ℕ) → i < length xs → (x : A) × (slice_get xs i ≡ Some x)
stands [] i h = absurd (omega arith)
stands (x ∷ xs) zero h = (x, refl)
stands (x ∷ xs) (suc i) h = stands xs i (omega (arith, h))

-- what stood there before, where the lists are as long
pub stood : {A : Type 0} (old new : List A) → length new ≡ length old → (i : ℕ) (x : A) → slice_get new i ≡ Some x → (y : A) × (slice_get old i ≡ Some y)
stood old new same i x h = stands old i (omega (arith, same, slice_get_within new i x h))

-- a fact of each place and what stands there, after a write
pub each_set : {A : Type 0} (P : ℕ → A → Type 0) (old new : List A) (b : ℕ) (v : A) → b < length old → new ≡ set old b v → P b v
    → ((y : ℕ) (x : A) → y ≢ b → slice_get old y ≡ Some x → P y x) → (y : ℕ) (x : A) → slice_get new y ≡ Some x → P y x
each_set {A} P old new b v l e here other y x h = split (eqb_tells y b)
  where
    split : ((y == b) ≡ true) × (y ≡ b) ⊎ ((y == b) ≡ false) × (y ≡ b → ⊥) → P y x
    split (inl k) =
        let g = got_same old b v l in
        let is : v ≡ x = cc in
        subst (λ (z : A). P y z) is (subst (λ (n : ℕ). P n v) (sym k.1) here)
    split (inr k) =
        let o = got_other old b y v k.1 in
        let was : slice_get old y ≡ Some x = cc in
        other y x k.1 was

-- two numbers that differ, as tests say it
pub apart : (x y : ℕ) → x ≢ y → (x == y) ≡ false
apart x y h = elim (eqb_tells x y) [ inl e ↦ absurd (h e.1) | inr e ↦ e.0 ]

pub apart_not : (x y : ℕ) → y ≢ x → not (x == y) ≡ true
apart_not x y h = rw (apart x y (λ e. h (sym e))) refl

-- one thing alone stands at a place
pub one_there : {A : Type 0} (xs : List A) (i j : ℕ) (x y : A) → j ≡ i → slice_get xs i ≡ Some x → slice_get xs j ≡ Some y → x ≡ y
one_there xs i j x y e h k = only_one (sym h ∙ ap (slice_get xs) (sym e) ∙ k)
  where
    only_one : Some x ≡ Some y → x ≡ y
    only_one e = cc

-- what was read at a place stands there
pub read_at : {A : Type 0} (xs : List A) (i : ℕ) (x : A) → i < length xs → x ≡ get_or xs i x → slice_get xs i ≡ Some x
read_at xs i x small e = slice_get-get_or xs i x small ∙ ap Some (sym e)

-- what stands in a list with one more at its end: what stood there, or the last
pub got_push : {A : Type 0} (xs : List A) (last : A) (i : ℕ) (x : A) → slice_get (xs ++ last ∷ []) i ≡ Some x → (slice_get xs i ≡ Some x) ⊎ ((i ≡ length xs) × (last ≡ x))
got_push [] last zero x h = inr (refl, one_there (last ∷ []) zero zero last x refl refl h)
got_push [] last (suc i) x h = absurd (cc)
got_push (y ∷ ys) last zero x h = inl h
got_push (y ∷ ys) last (suc i) x h = next (got_push ys last i x h)
  where
    next : (slice_get ys i ≡ Some x) ⊎ ((i ≡ length ys) × (last ≡ x)) → (slice_get ys i ≡ Some x) ⊎ ((suc i ≡ suc (length ys)) × (last ≡ x))
    next (inl k) = inl k
    next (inr k) = inr (ap suc k.0, k.1)
