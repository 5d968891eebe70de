-- The bricks of the five that pass a test: gathered one by one, or from five answers.
use Rattle.std.proofs.Common.{◌≡◌, ℕ, ◌+◌, ◌<◌, ◌&&◌, ◌==◌, Bool, true, false, List, [], ◌∷◌, ◌++◌, None, Some, refl, ap, sym, ◌∙◌, arith, nat_lt, get_or, take, filter, if◌then◌else◌, subst}
use Rattle.std.specs.List.{list_all, list_any}
use Rattle.std.proofs.lemmas.Bool.{eqb-true}
use Rattle.std.proofs.lemmas.List.Folds.{list_any_at}
use Rattle.std.proofs.lemmas.Bool.Decides.{nat_tests}
use Rattle.std.proofs.Math.Bool.{and-true}
use Rattle.afr_base.specs.Bricks.{IsWithin, added_if, all_five, and_left, and_right, from_table, is_nothing, lowest, member, same, same_is}
use Rattle.afr_base.specs.Five.{first_in, picked}
use Rattle.afr_base.specs.declared.ids.BrickId.{BrickId}
use Rattle.afr_base.proofs.RisingLemmas.{has_passing}

-- ---- one by one
past : (flag : Bool) (x b : ℕ) (s : List ℕ) → nat_lt x b ≡ true → added_if flag b (x ∷ s) ≡ x ∷ added_if flag b s
past false x b s h = refl
past true x b s h = grind (arith, nat_tests, h)

at_end : (p : ℕ → Bool) (b : ℕ) (xs : List ℕ) → list_all (λ x. nat_lt x b) xs ≡ true → added_if (p b) b (filter p xs) ≡ filter p (xs ++ b ∷ [])
at_end p b [] h = refl
at_end p b (x ∷ xs) h = go (p x) (at_end p b xs (and_right (nat_lt x b) (list_all (λ y. nat_lt y b) xs) h))
  where
    go : (e : Bool) → added_if (p b) b (filter p xs) ≡ filter p (xs ++ b ∷ [])
        → added_if (p b) b (if e then x ∷ filter p xs else filter p xs) ≡ (if e then x ∷ filter p (xs ++ b ∷ []) else filter p (xs ++ b ∷ []))
    go true k = past (p b) x b (filter p xs) (and_left (nat_lt x b) (list_all (λ y. nat_lt y b) xs) h) ∙ ap (λ (s : List ℕ). x ∷ s) k
    go false k = k

next : (p : ℕ → Bool) (b : ℕ) → b < 5 → added_if (p b) b (filter p (take b all_five)) ≡ filter p (take (b + 1) all_five)
next p b l =
    at_end p b (take b all_five) (from_table 5 (λ k. list_all (λ x. nat_lt x k) (take k all_five)) refl b l)
    ∙ ap (filter p) (sym (same_is (take (b + 1) all_five) (take b all_five ++ b ∷ []) (from_table 5 (λ k. same (take (k + 1) all_five) (take k all_five ++ k ∷ [])) refl b l)))

-- one round of a loop that gathers the bricks that pass
pub gathered : (p : ℕ → Bool) (b : ℕ) (flag : Bool) (set after : List ℕ) → b < 5 → set ≡ filter p (take b all_five) → flag ≡ p b → after ≡ added_if flag b set
    → after ≡ filter p (take (b + 1) all_five)
gathered p b flag set after l so_far test grows = grows ∙ ap (λ (f : Bool). added_if f b set) test ∙ ap (λ (s : List ℕ). added_if (p b) b s) so_far ∙ next p b l

pub some_passes : (p : ℕ → Bool) (b : ℕ) → b < 5 → p b ≡ true → list_any p all_five ≡ true
some_passes p b l h = list_any_at p all_five b 0 l (subst (λ (k : ℕ). p k ≡ true) (sym (itself b l)) h)
  where
    itself : (b : ℕ) → b < 5 → get_or all_five b 0 ≡ b
    itself b l = eqb-true (get_or all_five b 0) b (from_table 5 (λ k. get_or all_five k 0 == k) refl b l)

-- ---- as a test
pub member_chosen : (p : ℕ → Bool) (b : ℕ) → b < 5 → member (filter p all_five) b ≡ p b
member_chosen p b l = has_passing p all_five b ∙ ap (λ (m : Bool). p b && m) (from_table 5 (member all_five) refl b l) ∙ and-true (p b)

pub chosen_passes : (p : ℕ → Bool) (b : ℕ) → member (filter p all_five) b ≡ true → p b ≡ true
chosen_passes p b m = and_left (p b) (member all_five b) (sym (has_passing p all_five b) ∙ m)

pub chosen_below : (p : ℕ → Bool) → IsWithin 5 (filter p all_five)
chosen_below p b m = five (and_right (p b) (member all_five b) (sym (has_passing p all_five b) ∙ m))
  where
    five : member all_five b ≡ true → b < 5
    five h = grind (arith, nat_tests, h)

-- ---- from five answers
pub picked_is : (p : ℕ → Bool) → picked (p 0) (p 1) (p 2) (p 3) (p 4) ≡ filter p all_five
picked_is p =
    ap (λ (s : List ℕ). added_if (p 4) 4 (added_if (p 3) 3 (added_if (p 2) 2 (added_if (p 1) 1 s)))) (at_end p 0 [] refl)
    ∙ ap (λ (s : List ℕ). added_if (p 4) 4 (added_if (p 3) 3 (added_if (p 2) 2 s))) (at_end p 1 (0 ∷ []) refl)
    ∙ ap (λ (s : List ℕ). added_if (p 4) 4 (added_if (p 3) 3 s)) (at_end p 2 (0 ∷ 1 ∷ []) refl)
    ∙ ap (λ (s : List ℕ). added_if (p 4) 4 s) (at_end p 3 (0 ∷ 1 ∷ 2 ∷ []) refl)
    ∙ at_end p 4 (0 ∷ 1 ∷ 2 ∷ 3 ∷ []) refl

-- a brick of the five is in the set exactly where it passes
pub member_picked : (test : ℕ → Bool) (s : ℕ) → s < 5 → member (picked (test 0) (test 1) (test 2) (test 3) (test 4)) s ≡ test s
member_picked test s few = ap (λ (t : List ℕ). member t s) (picked_is test) ∙ member_chosen test s few

pub picked_same : (p q : ℕ → Bool) → ((s : ℕ) → s < 5 → p s ≡ q s) → picked (p 0) (p 1) (p 2) (p 3) (p 4) ≡ picked (q 0) (q 1) (q 2) (q 3) (q 4)
picked_same p q h = λ i. picked (h 0 (omega arith) i) (h 1 (omega arith) i) (h 2 (omega arith) i) (h 3 (omega arith) i) (h 4 (omega arith) i)

-- tests that agree on the five bricks choose the same
pub chosen_same : (p q : ℕ → Bool) → ((s : ℕ) → s < 5 → p s ≡ q s) → filter p all_five ≡ filter q all_five
chosen_same p q h = sym (picked_is p) ∙ picked_same p q h ∙ picked_is q

-- a set that is its bricks, one by one, is what its own test chooses
pub own_test : (s : List ℕ) → s ≡ picked (member s 0) (member s 1) (member s 2) (member s 3) (member s 4) → s ≡ filter (member s) all_five
own_test s is = is ∙ picked_is (member s)

-- ---- the first brick
pub first_none : (s : List ℕ) → is_nothing s ≡ true → None ≡ first_in s
first_none [] h = refl
first_none (x ∷ xs) h = absurd (cc h)

pub first_some : (s : List ℕ) (b : BrickId) → is_nothing s ≡ false → b.0 ≡ lowest s → Some b ≡ first_in s
first_some [] b h e = absurd (cc h)
first_some (x ∷ xs) b h e = λ i. Some (record { 0 = e i })
