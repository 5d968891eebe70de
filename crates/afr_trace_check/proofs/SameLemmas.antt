-- Two sets are the same where their first bricks are, and the rest.
use Rattle.std.proofs.Common.{◌≡◌, ◌∙◌, ◌⊎◌, inl, inr, ℕ, zero, suc, ◌+◌, ◌<◌, ◌≤◌, ◌==◌, ◌&&◌, ◌||◌, Bool, true, false, List, [], ◌∷◌, length, refl, sym, ap, subst, arith, if◌then◌else◌}
use Rattle.std.proofs.lemmas.Bool.Decides.{eqb_tells, nat_tests}
use Rattle.afr_base.specs.Bricks.{is_nothing, lowest, member, removed}
use Rattle.afr_base.specs.Majority.{count_below}
use Rattle.afr_base.specs.SetLemmas.{count_same}

-- ---- how many bricks below a number are in a set
none_counted : (n : ℕ) → count_below n (member []) ≡ 0
none_counted zero = refl
none_counted (suc n) = omega (arith, none_counted n)

-- one that isn't below the number counts for nothing
past : (n x : ℕ) (xs : List ℕ) → n ≤ x → count_below n (member (x ∷ xs)) ≡ count_below n (member xs)
past n x xs high = count_same n (member (x ∷ xs)) (member xs) (λ b low. by b low (eqb_tells x b))
  where
    by : (b : ℕ) → b < n → ((x == b) ≡ true) × (x ≡ b) ⊎ ((x == b) ≡ false) × (x ≡ b → ⊥) → member (x ∷ xs) b ≡ member xs b
    by b low (inl s) = absurd (omega (arith, low, high, s.1))
    by b low (inr s) = rw s.0 refl

counts_one : (hit there : Bool) (more less : ℕ) → (hit ≡ true → more ≡ less) → more ≤ suc less → (if hit || there then 1 else 0) + more ≤ suc ((if there then 1 else 0) + less)
counts_one true true more less f h = omega (arith, f refl)
counts_one true false more less f h = omega (arith, f refl)
counts_one false true more less f h = omega (arith, h)
counts_one false false more less f h = omega (arith, h)

one_more : (n x : ℕ) (xs : List ℕ) → count_below n (member (x ∷ xs)) ≤ suc (count_below n (member xs))
one_more zero x xs = omega arith
one_more (suc n) x xs = counts_one (x == n) (member xs n) (count_below n (member (x ∷ xs))) (count_below n (member xs)) (λ e. past n x xs (at n e)) (one_more n x xs)
  where
    at : (n : ℕ) → (x == n) ≡ true → n ≤ x
    at n e = grind (arith, nat_tests, e)

count_few : (n : ℕ) (xs : List ℕ) → count_below n (member xs) ≤ length xs
count_few n [] = omega (arith, none_counted n)
count_few n (x ∷ xs) = omega (arith, one_more n x xs, count_few n xs)

-- ---- the first brick, and the rest
-- one that is in the rest too adds none
same_members : (x : ℕ) (xs : List ℕ) → member xs x ≡ true → (b : ℕ) → member (x ∷ xs) b ≡ member xs b
same_members x xs there b = by (eqb_tells x b)
  where
    by : ((x == b) ≡ true) × (x ≡ b) ⊎ ((x == b) ≡ false) × (x ≡ b → ⊥) → ((x == b) || member xs b) ≡ member xs b
    by (inl s) = rw s.0 (sym (subst (λ (y : ℕ). member xs y ≡ true) s.1 there))
    by (inr s) = rw s.0 refl

-- a set with as many bricks as places has none twice
once : (n x : ℕ) (xs : List ℕ) → length (x ∷ xs) ≡ count_below n (member (x ∷ xs)) → member xs x ≡ false
once n x xs all = by (member xs x) refl
  where
    by : (there : Bool) → member xs x ≡ there → there ≡ false
    by false e = refl
    by true e = absurd (omega (arith, all, count_same n (member (x ∷ xs)) (member xs) (λ b low. same_members x xs e b), count_few n xs))

not_removed : (x : ℕ) (xs : List ℕ) → member xs x ≡ false → removed x xs ≡ xs
not_removed x [] h = refl
not_removed x (y ∷ ys) h = by (eqb_tells y x) h (not_removed x ys)
  where
    by : ((y == x) ≡ true) × (y ≡ x) ⊎ ((y == x) ≡ false) × (y ≡ x → ⊥) → ((y == x) || member ys x) ≡ false → (member ys x ≡ false → removed x ys ≡ ys) → removed x (y ∷ ys) ≡ y ∷ ys
    by (inl s) k more = absurd (cc (rw s.0 at k))
    by (inr s) k more =
        let other : (x == y) ≡ false = grind (arith, nat_tests, s.1) in
        let out : member ys x ≡ false = rw s.0 at k in
        rw other (ap (λ (t : List ℕ). y ∷ t) (more out))

first_out : (x : ℕ) (xs : List ℕ) → removed x (x ∷ xs) ≡ removed x xs
first_out x xs = grind (arith, nat_tests)

pub rest_is : (s left : List ℕ) (b : ℕ) → is_nothing s ≡ false → b ≡ lowest s → length s ≡ count_below 5 (member s) → left ≡ removed b s → s ≡ b ∷ left
rest_is [] left b some e all m = absurd (cc some)
rest_is (x ∷ xs) left b some e all m =
    let rest : left ≡ xs = m ∙ ap (λ (y : ℕ). removed y (x ∷ xs)) e ∙ first_out x xs ∙ not_removed x xs (once 5 x xs all) in
    rw (e, rest) refl
