-- Five numbers are all zero exactly where all their bits are.
use Rattle.std.proofs.Common.{◌≡◌, ℕ, zero, suc, ◌&&◌, ◌==◌, Bool, true, false, List, [], ◌∷◌, length, get_or, bit_or, replicate, refl, ap, ◌∙◌, arith}
use Rattle.std.specs.List.{list_all}
use Rattle.std.proofs.lemmas.Bool.{eqb-true}
use Rattle.std.proofs.lemmas.Bool.Decides.{nat_tests}
use Rattle.std.proofs.lemmas.Nat.{le_or_l, le_or_r}
use Rattle.afr_base.specs.Bricks.{and_left, and_right}
use Rattle.afr_base.specs.Marks.{zero_marks}

pub two_zero : (a b : ℕ) → (bit_or a b == 0) ≡ ((a == 0) && (b == 0))
two_zero zero b = refl
two_zero (suc a) b = grind (arith, nat_tests, le_or_l (suc a) b)

pub both_zero : (a b : ℕ) → bit_or a b ≡ 0 → (a ≡ 0) × (b ≡ 0)
both_zero a b h = (omega (arith, le_or_l a b, h), omega (arith, le_or_r a b, h))

regrouped : (a b c d e : Bool) → ((((a && b) && c) && d) && e) ≡ (a && (b && (c && (d && (e && true)))))
regrouped false b c d e = refl
regrouped true false c d e = refl
regrouped true true false d e = refl
regrouped true true true false e = refl
regrouped true true true true false = refl
regrouped true true true true true = refl

pub five_zero : (xs : List ℕ) → length xs ≡ 5
    → (bit_or (bit_or (bit_or (bit_or (get_or xs 0 0) (get_or xs 1 0)) (get_or xs 2 0)) (get_or xs 3 0)) (get_or xs 4 0) == 0) ≡ list_all (λ n. n == 0) xs
five_zero (a ∷ b ∷ c ∷ d ∷ e ∷ []) h = simp two_zero (regrouped (a == 0) (b == 0) (c == 0) (d == 0) (e == 0))
five_zero [] h = absurd (omega arith)
five_zero (a ∷ []) h = absurd (omega arith)
five_zero (a ∷ b ∷ []) h = absurd (omega arith)
five_zero (a ∷ b ∷ c ∷ []) h = absurd (omega arith)
five_zero (a ∷ b ∷ c ∷ d ∷ []) h = absurd (omega arith)
five_zero (a ∷ b ∷ c ∷ d ∷ e ∷ f ∷ xs) h = absurd (omega arith)

all_are : (xs : List ℕ) → list_all (λ n. n == 0) xs ≡ true → xs ≡ replicate (length xs) 0
all_are [] h = refl
all_are (x ∷ xs) h =
    let first : x ≡ 0 = eqb-true x 0 (and_left (x == 0) (list_all (λ n. n == 0) xs) h) in
    let more = all_are xs (and_right (x == 0) (list_all (λ n. n == 0) xs) h) in
    (λ i. first i ∷ more i)

-- five numbers that are all zero are no others
pub are_zero : (xs : List ℕ) → length xs ≡ 5 → list_all (λ n. n == 0) xs ≡ true → xs ≡ zero_marks.pending
are_zero xs five h = all_are xs h ∙ ap (λ (n : ℕ). replicate n 0) five
