-- What stands at a place of a list, after a write and after a push too.
use Rattle.std.proofs.Common.{◌≡◌, ◌≢◌, ℕ, zero, suc, ◌+◌, ◌<◌, ◌≤◌, ◌==◌, true, false, List, [], ◌∷◌, ◌++◌, length, refl, sym, ap, subst, arith, ◌∙◌, Some, slice_get, get_or, set, length-append, replicate, ◌⊎◌, inl, inr}
use Rattle.std.proofs.lemmas.Bool.Decides.{eqb_tells}
use Rattle.std.proofs.lemmas.Option.{slice_get-get_or, slice_get_within}

got_same : {A : Type 0} (xs : List A) (i : ℕ) (v : A) → i < length xs → slice_get (set xs i v) i ≡ Some v
got_same [] i v h = absurd (omega (arith, h))
got_same (x ∷ xs) zero v h = refl
got_same (x ∷ xs) (suc i) v h = got_same xs i v (omega (arith, h))

got_other : {A : Type 0} (xs : List A) (i j : ℕ) (v : A) → j ≢ i → slice_get (set xs i v) j ≡ slice_get xs j
got_other [] i j v h = refl
got_other (x ∷ xs) zero zero v h = absurd (h refl)
got_other (x ∷ xs) zero (suc j) v h = refl
got_other (x ∷ xs) (suc i) zero v h = refl
got_other (x ∷ xs) (suc i) (suc j) v h = got_other xs i j v (λ e. h (ap suc e))

-- one thing alone stands at a place
one_there : {A : Type 0} (xs : List A) (i j : ℕ) (x y : A) → j ≡ i → slice_get xs i ≡ Some x → slice_get xs j ≡ Some y → x ≡ y
one_there xs i j x y e h k = only_one (sym h ∙ ap (slice_get xs) (sym e) ∙ k)
  where
    only_one : Some x ≡ Some y → x ≡ y
    only_one e = cc

-- what stands in a list with one more at its end: what stood there, or the last
got_push : {A : Type 0} (xs : List A) (last : A) (i : ℕ) (x : A) → slice_get (xs ++ last ∷ []) i ≡ Some x → (slice_get xs i ≡ Some x) ⊎ ((i ≡ length xs) × (last ≡ x))
got_push [] last zero x h = inr (refl, one_there (last ∷ []) zero zero last x refl refl h)
got_push [] last (suc i) x h = absurd (cc)
got_push (y ∷ ys) last zero x h = inl h
got_push (y ∷ ys) last (suc i) x h = next (got_push ys last i x h)
  where
    next : (slice_get ys i ≡ Some x) ⊎ ((i ≡ length ys) × (last ≡ x)) → (slice_get ys i ≡ Some x) ⊎ ((suc i ≡ suc (length ys)) × (last ≡ x))
    next (inl k) = inl k
    next (inr k) = inr (ap suc k.0, k.1)

-- a fact of what stands at each place
abbrev pub EachAt : {A : Type 0} → (ℕ → A → Type 0) → List A → Type 0
EachAt {A} P xs = (i : ℕ) (x : A) → slice_get xs i ≡ Some x → P i x

pub each_push : {A : Type 0} (P : ℕ → A → Type 0) (xs : List A) (last : A) → P (length xs) last → EachAt P xs → EachAt P (xs ++ last ∷ [])
each_push {A} P xs last here all i x h = split (got_push xs last i x h)
  where
    split : (slice_get xs i ≡ Some x) ⊎ ((i ≡ length xs) × (last ≡ x)) → P i x
    split (inl k) = all i x k
    split (inr k) = subst (λ (n : ℕ). P n x) (sym k.0) (subst (λ (y : A). P (length xs) y) k.1 here)

-- the same of a list that another one with one more at its end is
pub each_pushed : {A : Type 0} (P : ℕ → A → Type 0) (xs ys : List A) (last : A) (n : ℕ) → ys ≡ xs ++ last ∷ [] → length xs ≡ n → P n last → EachAt P xs → EachAt P ys
each_pushed {A} P xs ys last n e len here all = subst (EachAt P) (sym e) (each_push P xs last (subst (λ (m : ℕ). P m last) (sym len) here) all)

pub length_pushed : {A : Type 0} (xs ys : List A) (last : A) (n : ℕ) → ys ≡ xs ++ last ∷ [] → length xs ≡ n → length ys ≡ n + 1
length_pushed {A} xs ys last n e len = omega (arith, ap (λ (zs : List A). length zs) e, length-append xs (last ∷ []), len)

pub each_replicate : {A : Type 0} (P : ℕ → A → Type 0) (n : ℕ) (v : A) → ((i : ℕ) → P i v) → EachAt P (replicate n v)
each_replicate {A} P n v all i x h = subst (P i) (is n i h) (all i)
  where
    is : (n i : ℕ) → slice_get (replicate n v) i ≡ Some x → v ≡ x
    is zero i h = absurd (cc)
    is (suc n) zero h = one_there (v ∷ []) zero zero v x refl refl h
    is (suc n) (suc i) h = is n i h

-- the places below n have come to a new fact, the others have their old one
pub record IsBetween {A : Type 0} (New Old : ℕ → A → Type 0) (n : ℕ) (xs : List A) : Type 0 where
  pub done : (i : ℕ) (x : A) → i < n → slice_get xs i ≡ Some x → New i x
  pub left : (i : ℕ) (x : A) → n ≤ i → slice_get xs i ≡ Some x → Old i x

pub none_done : {A : Type 0} (New Old : ℕ → A → Type 0) (xs : List A) → EachAt Old xs → IsBetween New Old 0 xs
none_done New Old xs all = record { done = λ i x l h. absurd (omega (arith, l)); left = λ i x l h. all i x h }

pub one_done : {A : Type 0} (New Old : ℕ → A → Type 0) (n m : ℕ) (xs ys : List A) (v : A) → m ≡ n + 1 → n < length xs → ys ≡ set xs n v → New n v → IsBetween New Old n xs → IsBetween New Old m ys
one_done {A} New Old n m xs ys v next low e new so = record { done = done; left = left }
  where
    done : (i : ℕ) (x : A) → i < m → slice_get ys i ≡ Some x → New i x
    done i x l h = split (eqb_tells i n)
      where
        split : ((i == n) ≡ true) × (i ≡ n) ⊎ ((i == n) ≡ false) × (i ≡ n → ⊥) → New i x
        split (inl k) =
            let here : slice_get ys n ≡ Some v = rw e (got_same xs n v low) in
            subst (λ (j : ℕ). New j x) (sym k.1) (subst (New n) (one_there ys n i v x k.1 here h) new)
        split (inr k) = so.done i x (omega (arith, l, next, k.1)) (sym (got_other xs n i v k.1) ∙ ap (λ (zs : List A). slice_get zs i) (sym e) ∙ h)

    left : (i : ℕ) (x : A) → m ≤ i → slice_get ys i ≡ Some x → Old i x
    left i x l h = so.left i x (omega (arith, l, next)) (sym (got_other xs n i v (λ k. omega (arith, k, l, next))) ∙ ap (λ (zs : List A). slice_get zs i) (sym e) ∙ h)

pub all_done : {A : Type 0} (New Old : ℕ → A → Type 0) (n : ℕ) (xs : List A) → length xs ≤ n → IsBetween New Old n xs → EachAt New xs
all_done New Old n xs long so i x h = so.done i x (omega (arith, slice_get_within xs i x h, long)) h

-- the next place still has its old fact
pub next_left : {A : Type 0} (New Old : ℕ → A → Type 0) (n : ℕ) (xs : List A) (d : A) → n < length xs → IsBetween New Old n xs → Old n (get_or xs n d)
next_left New Old n xs d low so = so.left n (get_or xs n d) (omega arith) (slice_get-get_or xs n d low)
