-- All bricks that pass one test pass another, brick by brick.
use Rattle.std.proofs.Common.{◌≡◌, ℕ, ◌<◌, ◌==◌, ◌&&◌, ◌||◌, not, Bool, true, false, List, [], ◌∷◌, refl, arith, filter, if◌then◌else◌, subst}
use Rattle.std.specs.List.{list_all}
use Rattle.std.proofs.lemmas.Bool.{eqb-true}
use Rattle.std.proofs.lemmas.Bool.Decides.{nat_tests}
use Rattle.afr_base.specs.Bricks.{all_five, from_table, member}

pub itself : (x : ℕ) (xs : List ℕ) → ((x == x) || member xs x) ≡ true
itself x xs = grind (arith, nat_tests)

pub later : (x k : ℕ) (xs : List ℕ) → member xs k ≡ true → ((x == k) || member xs k) ≡ true
later x k xs m = either (x == k) m
  where
    either : (e : Bool) → member xs k ≡ true → (e || member xs k) ≡ true
    either true m = refl
    either false m = m

all_pass : (chosen passes : ℕ → Bool) (xs : List ℕ) → ((k : ℕ) → member xs k ≡ true → (chosen k && not (passes k)) ≡ false) → list_all passes (filter chosen xs) ≡ true
all_pass chosen passes [] h = refl
all_pass chosen passes (x ∷ xs) h = step (chosen x) refl (passes x) refl (h x (itself x xs)) (all_pass chosen passes xs (λ k m. h k (later x k xs m)))
  where
    step : (c : Bool) → chosen x ≡ c → (e : Bool) → passes x ≡ e → (chosen x && not (passes x)) ≡ false → list_all passes (filter chosen xs) ≡ true
        → list_all passes (if c then x ∷ filter chosen xs else filter chosen xs) ≡ true
    step false f e g k ih = ih
    step true f true g k ih = rw g ih
    step true f false g k ih = absurd (cc (rw (f, g) at k))

one_fails : (chosen passes : ℕ → Bool) (xs : List ℕ) (k : ℕ) → member xs k ≡ true → (chosen k && not (passes k)) ≡ true → list_all passes (filter chosen xs) ≡ false
one_fails chosen passes [] k m h = absurd (cc m)
one_fails chosen passes (x ∷ xs) k m h = split (x == k) refl m (one_fails chosen passes xs k)
  where
    past : (c e : Bool) → list_all passes (filter chosen xs) ≡ false → chosen x ≡ c → passes x ≡ e → list_all passes (if c then x ∷ filter chosen xs else filter chosen xs) ≡ false
    past false e ih f g = ih
    past true true ih f g = rw g ih
    past true false ih f g = rw g refl

    here : (c e : Bool) → chosen x ≡ c → passes x ≡ e → (chosen x && not (passes x)) ≡ true → list_all passes (if c then x ∷ filter chosen xs else filter chosen xs) ≡ false
    here false e f g h = absurd (cc (rw f at h))
    here true true f g h = absurd (cc (rw (f, g) at h))
    here true false f g h = rw g refl

    split : (same : Bool) → (x == k) ≡ same → (same || member xs k) ≡ true → (member xs k ≡ true → (chosen k && not (passes k)) ≡ true → list_all passes (filter chosen xs) ≡ false)
        → list_all passes (filter chosen (x ∷ xs)) ≡ false
    split true e m ih = here (chosen x) (passes x) refl refl (subst (λ (y : ℕ). (chosen y && not (passes y)) ≡ true) (eqb-back e) h)
      where
        eqb-back : (x == k) ≡ true → k ≡ x
        eqb-back e = grind (arith, eqb-true x k e)
    split false e m ih = past (chosen x) (passes x) (ih m h) refl refl

-- no brick below five is chosen and fails
pub five_pass : (chosen passes : ℕ → Bool) → ((k : ℕ) → k < 5 → (chosen k && not (passes k)) ≡ false) → list_all passes (filter chosen all_five) ≡ true
five_pass chosen passes h = all_pass chosen passes all_five (λ k m. h k (below_five k m))
  where
    below_five : (k : ℕ) → member all_five k ≡ true → k < 5
    below_five k m = grind (arith, nat_tests, m)

-- one of them does
pub one_of_five_fails : (chosen passes : ℕ → Bool) (k : ℕ) → k < 5 → (chosen k && not (passes k)) ≡ true → list_all passes (filter chosen all_five) ≡ false
one_of_five_fails chosen passes k l h = one_fails chosen passes all_five k (from_table 5 (member all_five) refl k l) h
