-- The loop that gathers the candidates, brick by brick.
use Rattle.std.proofs.Common.{◌≡◌, ℕ, ◌+◌, ◌<◌, ◌≤◌, Bool, true, false, List, [], ◌∷◌, ◌++◌, refl, sym, ap, ◌∙◌, arith, filter, map, take, length, length-append, if◌then◌else◌}
use Rattle.afr_base.proofs.OfFive.{own_test}
use Rattle.afr_base.specs.Bricks.{all_five, from_table, member, same, same_is}
use Rattle.afr_base.specs.Five.{picked}
use Rattle.afr_rule.specs.declared.candidate.Candidate.{Candidate}

module _ (copy : ℕ → Candidate) (p : ℕ → Bool) where
  at_end : (b : ℕ) (xs : List ℕ) → map copy (filter p (xs ++ b ∷ [])) ≡ (if p b then map copy (filter p xs) ++ copy b ∷ [] else map copy (filter p xs))
  at_end b [] = go (p b) refl
    where
      go : (a : Bool) → p b ≡ a → map copy (filter p (b ∷ [])) ≡ (if p b then map copy (filter p []) ++ copy b ∷ [] else map copy (filter p []))
      go true e = rw e refl
      go false e = rw e refl
  at_end b (x ∷ xs) = go (p x) refl (p b) refl (at_end b xs)
    where
      go : (a : Bool) → p x ≡ a → (d : Bool) → p b ≡ d → map copy (filter p (xs ++ b ∷ [])) ≡ (if p b then map copy (filter p xs) ++ copy b ∷ [] else map copy (filter p xs))
          → map copy (filter p (x ∷ xs ++ b ∷ [])) ≡ (if p b then map copy (filter p (x ∷ xs)) ++ copy b ∷ [] else map copy (filter p (x ∷ xs)))
      go true e true f ih = let k = rw f at ih in rw (e, f) (ap (λ (ys : List Candidate). copy x ∷ ys) k)
      go true e false f ih = let k = rw f at ih in rw (e, f) (ap (λ (ys : List Candidate). copy x ∷ ys) k)
      go false e true f ih = let k = rw f at ih in rw (e, f) k
      go false e false f ih = let k = rw f at ih in rw (e, f) k

  -- one round of the loop
  pub gathered : (b : ℕ) (flag : Bool) (copies after : List Candidate) (added : Candidate) → b < 5 → copies ≡ map copy (filter p (take b all_five)) → flag ≡ p b → added ≡ copy b
      → after ≡ (if flag then copies ++ added ∷ [] else copies) → after ≡ map copy (filter p (take (b + 1) all_five))
  gathered b flag copies after added l so_far test is grows =
      let more : take (b + 1) all_five ≡ take b all_five ++ b ∷ [] = same_is (take (b + 1) all_five) (take b all_five ++ b ∷ []) (from_table 5 (λ k. same (take (k + 1) all_five) (take k all_five ++ k ∷ [])) refl b l) in
      let once : after ≡ (if p b then map copy (filter p (take b all_five)) ++ copy b ∷ [] else map copy (filter p (take b all_five))) = grows ∙ (λ i. if test i then so_far i ++ is i ∷ [] else so_far i) in
      once ∙ sym (at_end b (take b all_five)) ∙ ap (λ (xs : List ℕ). map copy (filter p xs)) (sym more)

-- at most one more each round
pub longer : (flag : Bool) (copies after : List Candidate) (added : Candidate) (b : ℕ) → length copies ≤ b → after ≡ (if flag then copies ++ added ∷ [] else copies) → length after ≤ b + 1
longer true copies after added b l e = rw e (grind (arith, length-append copies (added ∷ []), l))
longer false copies after added b l e = rw e (omega (arith, l))

-- after the fifth round
pub all_gathered : (copy : ℕ → Candidate) (set : List ℕ) (copies : List Candidate) (x : ℕ) → x ≡ 5 → copies ≡ map copy (filter (member set) (take x all_five))
    → set ≡ picked (member set 0) (member set 1) (member set 2) (member set 3) (member set 4) → copies ≡ map copy set
all_gathered copy set copies x end k is = k ∙ (λ i. map copy (filter (member set) (take (end i) all_five))) ∙ ap (map copy) (sym (own_test set is))
