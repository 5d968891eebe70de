-- Reading from the front of a list.
use Rattle.std.proofs.Common.{◌≡◌, ℕ, ◌+◌, ◌<◌, ◌≤◌, List, [], ◌∷◌, length, drop, get_or, None, refl, ap, arith, drop-cons, suc, Bool, true, false, cond, zero, take, take_while}
use Rattle.std.specs.Char.{digit_value}
use Rattle.std.specs.Str.Parse.{AllDigits}
use Rattle.std.proofs.lemmas.Str.Parse.{digit_from_value}
use Rattle.std.proofs.lemmas.Str.{digit_value_digit}
use Rattle.std.proofs.lemmas.List.Sums.{take_while-cons}
use Rattle.afr_plan.specs.Bytes.{digit}
use Rattle.afr_plan.specs.Reading.{after}
use Rattle.afr_plan.proofs.Digits.{digit_value_of}

no_more : (w : ℕ) (ws xs : List ℕ) → length xs ≡ 0 → after (w ∷ ws) xs ≡ None
no_more w ws [] e = refl
no_more w ws (x ∷ xs) e = absurd (omega arith)

-- a word that goes on past the end
pub runs_out : (ws xs : List ℕ) (i : ℕ) → i < length ws → length xs ≡ 0 → after (drop i ws) xs ≡ None
runs_out ws xs i l e = rw (drop-cons ws i 0) (no_more (get_or ws i 0) (drop (suc i) ws) xs e)

-- ---- numerals
pub digit_is : (c : ℕ) → digit_value c < 10 → (48 ≤ c) × (c ≤ 57) × (digit_value c + 48 ≡ c)
digit_is c l = let r = digit_from_value c l in (r.0, r.1, digit_value_digit c r)

pub digit_at : (ds : List ℕ) (i : ℕ) → i < length ds → AllDigits 10 ds → digit_value (get_or ds i 0) < 10
digit_at [] i l a = absurd (omega arith)
digit_at (d ∷ ds) zero l a = a.0
digit_at (d ∷ ds) (suc i) l a = digit_at ds i (omega arith) a.1

pub front_digits : (xs : List ℕ) → AllDigits 10 (take_while digit xs)
front_digits [] = tt
front_digits (x ∷ xs) = rw (take_while-cons digit x xs) (step x xs (digit x) refl (front_digits xs))
  where
    step : (x : ℕ) (xs : List ℕ) (b : Bool) → digit x ≡ b → AllDigits 10 (take_while digit xs) → AllDigits 10 (cond b (x ∷ take_while digit xs) [])
    step x xs true e rest = (digit_value_of x e, rest)
    step x xs false e rest = tt

pub front_take : (p : ℕ → Bool) (xs : List ℕ) → take (length (take_while p xs)) xs ≡ take_while p xs
front_take p [] = refl
front_take p (x ∷ xs) = rw (take_while-cons p x xs) (step (front_take p xs) (p x))
  where
    step : take (length (take_while p xs)) xs ≡ take_while p xs → (b : Bool) → take (length (cond b (x ∷ take_while p xs) [])) (x ∷ xs) ≡ cond b (x ∷ take_while p xs) []
    step later true = ap (λ t. x ∷ t) later
    step later false = refl
