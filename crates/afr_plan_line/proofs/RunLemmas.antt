-- Runs of bytes that pass a test, where all bytes are known to pass, or all before one that doesn't.
use Rattle.std.proofs.Common.{◌≡◌, ◌<◌, ℕ, Bool, true, false, List, [], ◌∷◌, ◌+◌, ◌≤◌, length, drop, take, take_while, get_or, suc, zero, refl, arith}
use Rattle.std.specs.List.{list_all}
use Rattle.std.proofs.lemmas.List.Sums.{take_while-cons}

pub all_run : (p : ℕ → Bool) (xs : List ℕ) → list_all p xs ≡ true → length (take_while p xs) ≡ length xs
all_run p [] h = refl
all_run p (x ∷ xs) h = grind (arith, take_while-cons p x xs, all_run p xs)

pub run_before : (p : ℕ → Bool) (xs : List ℕ) (k : ℕ) → k < length xs → list_all p (take k xs) ≡ true → p (get_or xs k 0) ≡ false → length (take_while p xs) ≡ k
run_before p [] k l h e = absurd (omega arith)
run_before p (x ∷ xs) zero l h e = grind (arith, take_while-cons p x xs)
run_before p (x ∷ xs) (suc k) l h e = grind (arith, take_while-cons p x xs, run_before p xs k)

-- a run goes on behind bytes that pass
pub run_on : (p : ℕ → Bool) (xs : List ℕ) (k : ℕ) → k ≤ length xs → list_all p (take k xs) ≡ true → length (take_while p xs) ≡ k + length (take_while p (drop k xs))
run_on p xs zero l h = omega arith
run_on p [] (suc k) l h = absurd (omega arith)
run_on p (x ∷ xs) (suc k) l h = grind (arith, take_while-cons p x xs, run_on p xs k)
