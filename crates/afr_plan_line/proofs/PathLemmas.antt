-- The names of a path, piece by piece.
use Rattle.std.proofs.Common.{◌≡◌, ℕ, ◌+◌, List, [], ◌∷◌, length, take, drop, refl, ap, ◌∙◌, arith, suc, Bool, true, false, ◌==◌, cond, Option, Some, None, nat_lt, not}
use Rattle.std.specs.List.{position, prefix_len}
use Rattle.std.proofs.lemmas.Bool.Decides.{nat_tests}
use Rattle.afr_plan.specs.Paths.{in_first, pieces}

abbrev pub pieces_at : Option ℕ → List ℕ → List (List ℕ)
pieces_at None bs = bs ∷ []
pieces_at (Some k) bs = take k bs ∷ pieces (drop (k + 1) bs)

abbrev other : ℕ → Bool
other b = not (b == 47)

one_on : (x : ℕ) (xs : List ℕ) (n : ℕ) (c : Bool) → nat_lt (1 + n) (length (x ∷ xs)) ≡ c
    → in_first x (pieces_at (cond c (Some n) None) xs) ≡ pieces_at (cond c (Some (1 + n)) None) (x ∷ xs)
one_on x xs n true h = let e : 1 + n ≡ suc n = omega arith in let e2 : n + 1 ≡ suc n = omega arith in let e3 : suc n + 1 ≡ suc (suc n) = omega arith in rw (e, e2, e3) refl
one_on x xs n false h = refl

pub pieces-position : (bs : List ℕ) → pieces bs ≡ pieces_at (position (λ b. b == 47) bs) bs
pieces-position [] = refl
pieces-position (x ∷ xs) = step (x == 47) refl (pieces-position xs)
  where
    step : (c : Bool) → (x == 47) ≡ c → pieces xs ≡ pieces_at (position (λ b. b == 47) xs) xs
        → cond c ([] ∷ pieces xs) (in_first x (pieces xs)) ≡ pieces_at (cond (nat_lt (cond (not c) (1 + prefix_len other xs) 0) (length (x ∷ xs))) (Some (cond (not c) (1 + prefix_len other xs) 0)) None) (x ∷ xs)
    step true e ih = let t : nat_lt 0 (length (x ∷ xs)) ≡ true = grind (arith, nat_tests) in rw t refl
    step false e ih =
        let n : ℕ = prefix_len other xs in
        let t : nat_lt n (length xs) ≡ nat_lt (1 + n) (length (x ∷ xs)) = grind (arith, nat_tests) in
        ap (in_first x) ih ∙ ap (λ (c : Bool). in_first x (pieces_at (cond c (Some n) None) xs)) t ∙ one_on x xs n (nat_lt (1 + n) (length (x ∷ xs))) refl
