-- The names of a path are there once it was numbered, and keep their numbers.
use Rattle.std.proofs.Common.{◌≡◌, ℕ, ◌+◌, List, [], ◌∷◌, ◌++◌, refl, ap, ◌∙◌, Bool, true, false, cond, not, ◌||◌}
use Rattle.std.specs.List.{list_any, position_or_len}
use Rattle.std.specs.Str.{bytes_eq}
use Rattle.std.proofs.lemmas.Cmp.{nat_list_eq_equiv}
use Rattle.std.proofs.lemmas.List.Folds.{list_any-append}
use Rattle.afr_base.specs.declared.ids.NameId.{NameId}
use Rattle.afr_plan.specs.Names.{with_name, with_names, number_of}
use Rattle.afr_plan.specs.PlanOf.{path_of}
use Rattle.afr_plan_read.specs.Numbered.{IsNumbered}

abbrev id_of : ℕ → NameId
id_of n = record { 0 = n }

same : (w : List ℕ) → bytes_eq w w ≡ true
same w = nat_list_eq_equiv.refl w

-- ---- a name that is there
there_itself : (n : List ℕ) (ws : List (List ℕ)) → list_any (bytes_eq n) (with_name ws n) ≡ true
there_itself n ws = step (list_any (bytes_eq n) ws) refl
  where
    step : (c : Bool) → list_any (bytes_eq n) ws ≡ c → list_any (bytes_eq n) (cond c ws (ws ++ n ∷ [])) ≡ true
    step true e = e
    step false e = list_any-append (bytes_eq n) ws (n ∷ []) ∙ rw (e, same n) refl

there_still : (n m : List ℕ) (ws : List (List ℕ)) → list_any (bytes_eq n) ws ≡ true → list_any (bytes_eq n) (with_name ws m) ≡ true
there_still n m ws h = step (list_any (bytes_eq m) ws)
  where
    step : (c : Bool) → list_any (bytes_eq n) (cond c ws (ws ++ m ∷ [])) ≡ true
    step true = h
    step false = list_any-append (bytes_eq n) ws (m ∷ []) ∙ rw h refl

there_after : (path : List (List ℕ)) (n : List ℕ) (ws : List (List ℕ)) → list_any (bytes_eq n) ws ≡ true → list_any (bytes_eq n) (with_names ws path) ≡ true
there_after [] n ws h = h
there_after (m ∷ path) n ws h = there_after path n (with_name ws m) (there_still n m ws h)

-- ---- its number
-- a new name comes after all others
at_end : (n : List ℕ) (ws : List (List ℕ)) → position_or_len (bytes_eq n) (ws ++ n ∷ []) ≡ position_or_len (bytes_eq n) ws
at_end n [] = rw (same n) refl
at_end n (x ∷ xs) = ap (λ (k : ℕ). cond (not (bytes_eq n x)) (1 + k) 0) (at_end n xs)

number_itself : (n : List ℕ) (ws : List (List ℕ)) → number_of (with_name ws n) n ≡ number_of ws n
number_itself n ws = step (list_any (bytes_eq n) ws)
  where
    step : (c : Bool) → number_of (cond c ws (ws ++ n ∷ [])) n ≡ number_of ws n
    step true = refl
    step false = at_end n ws

among_more : (n : List ℕ) (ws more : List (List ℕ)) → list_any (bytes_eq n) ws ≡ true → position_or_len (bytes_eq n) (ws ++ more) ≡ position_or_len (bytes_eq n) ws
among_more n [] more h = cc
among_more n (x ∷ xs) more h = step (bytes_eq n x) h (λ (k : list_any (bytes_eq n) xs ≡ true). among_more n xs more k)
  where
    step : (b : Bool) → (b || list_any (bytes_eq n) xs) ≡ true → (list_any (bytes_eq n) xs ≡ true → position_or_len (bytes_eq n) (xs ++ more) ≡ position_or_len (bytes_eq n) xs)
        → cond (not b) (1 + position_or_len (bytes_eq n) (xs ++ more)) 0 ≡ cond (not b) (1 + position_or_len (bytes_eq n) xs) 0
    step true h rest = refl
    step false h rest = ap (λ (k : ℕ). 1 + k) (rest h)

number_still : (n m : List ℕ) (ws : List (List ℕ)) → list_any (bytes_eq n) ws ≡ true → number_of (with_name ws m) n ≡ number_of ws n
number_still n m ws h = step (list_any (bytes_eq m) ws)
  where
    step : (c : Bool) → number_of (cond c ws (ws ++ m ∷ [])) n ≡ number_of ws n
    step true = refl
    step false = among_more n ws (m ∷ []) h

number_after : (path : List (List ℕ)) (n : List ℕ) (ws : List (List ℕ)) → list_any (bytes_eq n) ws ≡ true → number_of (with_names ws path) n ≡ number_of ws n
number_after [] n ws h = refl
number_after (m ∷ path) n ws h = number_after path n (with_name ws m) (there_still n m ws h) ∙ number_still n m ws h

-- ---- a path
pub numbered : (path ws : List (List ℕ)) → IsNumbered (with_names ws path) path (path_of ws path)
numbered [] ws = record { known = refl; numbers = refl }
numbered (n ∷ path) ws =
    let first : List (List ℕ) = with_name ws n in
    let all : List (List ℕ) = with_names first path in
    let there : list_any (bytes_eq n) all ≡ true = there_after path n first (there_itself n ws) in
    let kept : with_name all n ≡ all = rw there refl in
    let number : number_of all n ≡ number_of ws n = number_after path n first (there_itself n ws) ∙ number_itself n ws in
    let rest : IsNumbered all path (path_of first path) = numbered path first in
    record {
      known = ap (λ (t : List (List ℕ)). with_names t path) kept ∙ rest.known;
      numbers = ap (λ (k : ℕ). id_of k ∷ path_of (with_name all n) path) number
          ∙ ap (λ (t : List (List ℕ)). id_of (number_of ws n) ∷ path_of t path) kept
          ∙ ap (λ (t : List NameId). id_of (number_of ws n) ∷ t) rest.numbers;
    }
