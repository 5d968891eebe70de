-- Small facts of tests and sets.
use Rattle.std.proofs.Common.{◌≡◌, ℕ, zero, suc, ◌*◌, ◌<◌, ◌&&◌, ◌||◌, not, ◌==◌, nat_lt, Bool, true, false, refl, sym, subst, arith, if◌then◌else◌}
use Rattle.std.proofs.lemmas.Bool.{eqb-true}
use Rattle.std.proofs.lemmas.Bool.Decides.{nat_tests}
use Rattle.afr_base.specs.Majority.{is_most, count_below}
use Rattle.afr_model_moves.specs.Sets.{any, with, without}
use Rattle.afr_model_moves.proofs.Tests.{some_no, some_yes}
pub use Rattle.afr_model_moves.proofs.Tests.{both, denied, deny, lt_test, no_or, pair}

-- ---- tests
pub or_true : (x : Bool) → (x || true) ≡ true
or_true true = refl
or_true false = refl

pub off : (x y : Bool) → x ≡ false → (x && y) ≡ false
off true y h = absurd (cc h)
off false y h = refl

pub not_both : (x : Bool) → x ≡ true → x ≡ false → ⊥
not_both true a b = cc b
not_both false a b = cc a

-- a step that is over and doesn't stop the heal has what it needs
pub over_then : (o a : Bool) → o ≡ true → (o && not a) ≡ false → a ≡ true
over_then true true e h = refl
over_then true false e h = absurd (cc h)
over_then false a e h = absurd (cc e)

-- ---- one brick of a set
-- a majority has a brick
pub some_of_most : (n : ℕ) (p : ℕ → Bool) → is_most n p ≡ true → (s : ℕ) × (s < n) × (p s ≡ true)
some_of_most n p h = some_yes n p (go n (count n) h)
  where
    count : (n : ℕ) → any n p ≡ false → count_below n p ≡ 0
    count zero h = refl
    count (suc n) h = let e = (no_or (p n) (any n p) h).0 in let f = count n (no_or (p n) (any n p) h).1 in rw (e, f) refl

    go : (n : ℕ) → (any n p ≡ false → count_below n p ≡ 0) → is_most n p ≡ true → any n p ≡ true
    go n count h = pick (any n p) refl
      where
        pick : (x : Bool) → any n p ≡ x → any n p ≡ true
        pick true e = e
        pick false e = let z = count e in let k : nat_lt n (2 * 0) ≡ true = rw z at h in absurd (grind (arith, nat_tests, k))

pub any_no : (n : ℕ) (p : ℕ → Bool) → ((x : ℕ) → x < n → p x ≡ false) → any n p ≡ false
any_no zero p h = refl
any_no (suc n) p h = rw (h n (omega arith), any_no n p (λ x l. h x (omega (arith, l)))) refl

pub any_none : (n : ℕ) (p : ℕ → Bool) → any n p ≡ false → (x : ℕ) → x < n → p x ≡ false
any_none n p h x l = go (p x) refl
  where
    go : (f : Bool) → p x ≡ f → p x ≡ false
    go true e = absurd (not_both (any n p) (some_no n p x l e) h)
    go false e = e

-- ---- a brick more, a brick less
pub without_no : (f : ℕ → Bool) (b x : ℕ) → f x ≡ false → without f b x ≡ false
without_no f b x h = go (x == b)
  where
    go : (e : Bool) → (if e then false else f x) ≡ false
    go true = refl
    go false = h

-- what both sets lose
pub without_both : (f h : ℕ → Bool) (b x : ℕ) → (f x ≡ true → h x ≡ true) → without f b x ≡ true → without h b x ≡ true
without_both f h b x sub = go (x == b)
  where
    go : (e : Bool) → (if e then false else f x) ≡ true → (if e then false else h x) ≡ true
    go true k = k
    go false k = sub k

pub with_sub : (f h : ℕ → Bool) (b x : ℕ) → h b ≡ true → (f x ≡ true → h x ≡ true) → with f b x ≡ true → h x ≡ true
with_sub f h b x own sub = go (x == b) refl
  where
    go : (e : Bool) → (x == b) ≡ e → (if e then true else f x) ≡ true → h x ≡ true
    go true e k = subst (λ (y : ℕ). h y ≡ true) (sym (eqb-true x b e)) own
    go false e k = sub k

pub with_with : (f h : ℕ → Bool) (b x : ℕ) → (f x ≡ true → h x ≡ true) → with f b x ≡ true → with h b x ≡ true
with_with f h b x sub = go (x == b)
  where
    go : (e : Bool) → (if e then true else f x) ≡ true → (if e then true else h x) ≡ true
    go true k = refl
    go false k = sub k
