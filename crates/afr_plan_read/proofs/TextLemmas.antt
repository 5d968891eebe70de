-- A text line by line.
use Rattle.std.proofs.Common.{◌≡◌, ℕ, ◌+◌, List, [], ◌∷◌, length, take, drop, refl, ap, ◌∙◌, arith, suc, Bool, true, false, ◌==◌, cond, Option, Some, None, nat_lt, not}
use Rattle.std.specs.List.{position, prefix_len}
use Rattle.std.proofs.lemmas.Bool.Decides.{nat_tests}
use Rattle.afr_plan.specs.TextLines.{Text, text_of, with_byte, cut_of, in_front}

abbrev pub cut_at : Option ℕ → List ℕ → Option (List ℕ × List ℕ)
cut_at None bs = None
cut_at (Some k) bs = Some (take k bs, drop (k + 1) bs)

abbrev other : ℕ → Bool
other b = not (b == 10)

one_on : (x : ℕ) (xs : List ℕ) (n : ℕ) (c : Bool) → nat_lt (1 + n) (length (x ∷ xs)) ≡ c
    → in_front x (cut_at (cond c (Some n) None) xs) ≡ cut_at (cond c (Some (1 + n)) None) (x ∷ xs)
one_on x xs n true h = let e : 1 + n ≡ suc n = omega arith in let e2 : n + 1 ≡ suc n = omega arith in let e3 : suc n + 1 ≡ suc (suc n) = omega arith in rw (e, e2, e3) refl
one_on x xs n false h = refl

pub cut-position : (bs : List ℕ) → cut_of bs ≡ cut_at (position (λ b. b == 10) bs) bs
cut-position [] = refl
cut-position (x ∷ xs) = step (x == 10) refl (cut-position xs)
  where
    step : (c : Bool) → (x == 10) ≡ c → cut_of xs ≡ cut_at (position (λ b. b == 10) xs) xs
        → cond c (Some ([], xs)) (in_front x (cut_of xs)) ≡ cut_at (cond (nat_lt (cond (not c) (1 + prefix_len other xs) 0) (length (x ∷ xs))) (Some (cond (not c) (1 + prefix_len other xs) 0)) None) (x ∷ xs)
    step true e ih = let t : nat_lt 0 (length (x ∷ xs)) ≡ true = grind (arith, nat_tests) in rw t refl
    step false e ih =
        let n : ℕ = prefix_len other xs in
        let t : nat_lt n (length xs) ≡ nat_lt (1 + n) (length (x ∷ xs)) = grind (arith, nat_tests) in
        ap (in_front x) ih ∙ ap (λ (c : Bool). in_front x (cut_at (cond c (Some n) None) xs)) t ∙ one_on x xs n (nat_lt (1 + n) (length (x ∷ xs))) refl

abbrev pub text_after : Option (List ℕ × List ℕ) → List ℕ → Text
text_after None bs = record { lines = []; tail = bs }
text_after (Some x) bs = record { lines = x.0 ∷ (text_of x.1).lines; tail = (text_of x.1).tail }

one_front : (b : ℕ) (bs : List ℕ) (o : Option (List ℕ × List ℕ)) → with_byte b (text_after o bs).lines (text_after o bs).tail ≡ text_after (in_front b o) (b ∷ bs)
one_front b bs None = refl
one_front b bs (Some x) = refl

pub text-cut : (bs : List ℕ) → text_of bs ≡ text_after (cut_of bs) bs
text-cut [] = refl
text-cut (b ∷ bs) = step (b == 10) (text-cut bs)
  where
    step : (c : Bool) → text_of bs ≡ text_after (cut_of bs) bs
        → cond c (record { lines = [] ∷ (text_of bs).lines; tail = (text_of bs).tail }) (with_byte b (text_of bs).lines (text_of bs).tail) ≡ text_after (cond c (Some ([], bs)) (in_front b (cut_of bs))) (b ∷ bs)
    step true ih = refl
    step false ih = ap (λ (t : Text). with_byte b t.lines t.tail) ih ∙ one_front b bs (cut_of bs)
