-- The elements of a set of bricks are bytes.
use Rattle.std.proofs.Common.{Bool, List, [], arith, false, length, refl, suc, true, zero, ℕ, ◌+◌, ◌<◌, ◌==◌, ◌||◌, ◌∷◌, ◌≡◌, ◌≤◌}
use Rattle.std.proofs.lemmas.Bool.Decides.{nat_tests}
use Rattle.std.specs.Prelude.{if◌then◌else◌, nat_lt}
use Rattle.afr_base.specs.Bricks.{member}
use Rattle.afr_base.specs.Majority.{count_below}
use Rattle.afr_model_moves.specs.Ranges.{Each, IsByte}

-- ---- the elements of a set of bricks
abbrev below_of : ℕ → List ℕ → ℕ
below_of n [] = 0
below_of n (x ∷ xs) = (if nat_lt x n then 1 else 0) + below_of n xs

below_most : (n : ℕ) (s : List ℕ) → below_of n s ≤ length s
below_most n [] = omega arith
below_most n (x ∷ xs) = step (nat_lt x n) _ _ (below_most n xs)
  where
    step : (hit : Bool) (k m : ℕ) → k ≤ m → (if hit then 1 else 0) + k ≤ suc m
    step true k m h = omega (arith, h)
    step false k m h = omega (arith, h)

count_or : (n : ℕ) (p q : ℕ → Bool) → count_below n (λ b. p b || q b) ≤ count_below n p + count_below n q
count_or zero p q = omega arith
count_or (suc n) p q = step (p n) (q n) _ _ _ (count_or n p q)
  where
    step : (x y : Bool) (k l m : ℕ) → k ≤ l + m → (if x || y then 1 else 0) + k ≤ ((if x then 1 else 0) + l) + ((if y then 1 else 0) + m)
    step true true k l m h = omega (arith, h)
    step true false k l m h = omega (arith, h)
    step false true k l m h = omega (arith, h)
    step false false k l m h = omega (arith, h)

-- one number is counted once, if it is below
count_one : (n x : ℕ) → count_below n (λ b. x == b) ≤ (if nat_lt x n then 1 else 0)
count_one zero x = omega arith
count_one (suc n) x = step (x == n) refl (nat_lt x n) refl (nat_lt x (suc n)) refl _ (count_one n x)
  where
    step : (here : Bool) → (x == n) ≡ here → (under : Bool) → nat_lt x n ≡ under → (low : Bool) → nat_lt x (suc n) ≡ low → (k : ℕ) → k ≤ (if under then 1 else 0) → (if here then 1 else 0) + k ≤ (if low then 1 else 0)
    step true e true f low g k h = absurd (grind (arith, nat_tests))
    step true e false f true g k h = omega (arith, h)
    step true e false f false g k h = absurd (grind (arith, nat_tests))
    step false e true f true g k h = omega (arith, h)
    step false e true f false g k h = absurd (grind (arith, nat_tests))
    step false e false f true g k h = omega (arith, h)
    step false e false f false g k h = omega (arith, h)

counted : (n : ℕ) (s : List ℕ) → count_below n (member s) ≤ below_of n s
counted n [] = none n
  where
    none : (m : ℕ) → count_below m (member []) ≤ 0
    none zero = omega arith
    none (suc m) = (let k = none m in omega (arith, k))
counted n (x ∷ xs) = (let one = count_one n x in let more = counted n xs in let both = count_or n (λ b. x == b) (member xs) in omega (arith, one, more, both))

all_below : (n : ℕ) (s : List ℕ) → length s ≤ below_of n s → Each (λ k. k < n) s
all_below n [] h = tt
all_below n (x ∷ xs) h = step (nat_lt x n) refl (all_below n xs) h
  where
    step : (hit : Bool) → nat_lt x n ≡ hit → (length xs ≤ below_of n xs → Each (λ k. k < n) xs) → suc (length xs) ≤ (if hit then 1 else 0) + below_of n xs → (x < n) × Each (λ k. k < n) xs
    step true e rest k = (grind (arith, nat_tests), rest (omega (arith, k)))
    step false e rest k = absurd (omega (arith, k, below_most n xs))

bytes_of : (s : List ℕ) → Each (λ k. k < 5) s → Each IsByte s
bytes_of [] h = tt
bytes_of (x ∷ xs) h = (let l = h.0 in omega (arith, l), bytes_of xs h.1)

-- a set with as many elements as there are bricks of it has bricks alone
pub bricks_are_bytes : (s : List ℕ) → length s ≡ count_below 5 (member s) → Each IsByte s
bricks_are_bytes s e = bytes_of s (all_below 5 s (let c = counted 5 s in omega (arith, e, c)))
