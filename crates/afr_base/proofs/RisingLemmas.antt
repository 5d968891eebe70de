-- Sets of bricks are in rising order, so two with the same bricks are one.
use Rattle.std.proofs.Common.{◌≡◌, ℕ, suc, ◌≤◌, ◌<◌, ◌==◌, ◌||◌, ◌&&◌, nat_lt, Bool, true, false, List, [], ◌∷◌, filter, refl, sym, ◌∙◌, arith, ap, if◌then◌else◌, ◌⊎◌, inl, inr, subst}
use Rattle.std.proofs.lemmas.Bool.{eqb-true}
use Rattle.std.proofs.lemmas.Bool.Decides.{nat_tests}
use Rattle.afr_base.specs.Bricks.{added, all_five, below, from_table, is_nothing, lowest, member, removed}
use Rattle.afr_base.specs.Rising.{IsRising}
use Rattle.afr_base.proofs.TestLemmas.{same_number}

pub rising_from_lower : (j k : ℕ) (s : List ℕ) → k ≤ j → IsRising j s → IsRising k s
rising_from_lower j k [] l h = tt
rising_from_lower j k (x ∷ xs) l h = (omega (arith, h.0), h.1)

-- what passes of a rising list rises
pub rising_filter : (p : ℕ → Bool) (k : ℕ) (s : List ℕ) → IsRising k s → IsRising k (filter p s)
rising_filter p k [] h = tt
rising_filter p k (x ∷ xs) h = pick (p x) (rising_filter p (suc x) xs h.1)
  where
    pick : (e : Bool) → IsRising (suc x) (filter p xs) → IsRising k (if e then x ∷ filter p xs else filter p xs)
    pick true ih = (h.0, ih)
    pick false ih = rising_from_lower (suc x) k (filter p xs) (omega (arith, h.0)) ih

-- so do the bricks of the five that pass
pub rising_five : (p : ℕ → Bool) → IsRising 0 (filter p all_five)
rising_five p = rising_filter p 0 all_five (omega arith, (omega arith, (omega arith, (omega arith, (omega arith, tt)))))

-- and all bricks below a number
pub rising_below : (n : ℕ) → IsRising 0 (below n)
unfolding below
rising_below n = rising_five (λ b. nat_lt b n)

pub rising_added : (b k : ℕ) (s : List ℕ) → k ≤ b → IsRising k s → IsRising k (added b s)
rising_added b k [] l h = (l, tt)
rising_added b k (x ∷ xs) l h = lower (nat_lt b x) refl (λ m. rising_added b (suc x) xs m h.1)
  where
    same : (f : Bool) → (b == x) ≡ f → nat_lt b x ≡ false → (suc x ≤ b → IsRising (suc x) (added b xs)) → IsRising k (if f then x ∷ xs else x ∷ added b xs)
    same true g e ih = h
    same false g e ih = (h.0, ih (grind (arith, nat_tests, e, g)))

    lower : (e : Bool) → nat_lt b x ≡ e → (suc x ≤ b → IsRising (suc x) (added b xs))
        → IsRising k (if e then b ∷ x ∷ xs else (if b == x then x ∷ xs else x ∷ added b xs))
    lower true e ih = (l, (grind (arith, nat_tests, e), h.1))
    lower false e ih = same (b == x) refl e ih

pub rising_removed : (b k : ℕ) (s : List ℕ) → IsRising k s → IsRising k (removed b s)
rising_removed b k [] h = tt
rising_removed b k (x ∷ xs) h = pick (b == x) (rising_removed b (suc x) xs h.1)
  where
    pick : (e : Bool) → IsRising (suc x) (removed b xs) → IsRising k (if e then removed b xs else x ∷ removed b xs)
    pick true ih = rising_from_lower (suc x) k (removed b xs) (omega (arith, h.0)) ih
    pick false ih = (h.0, ih)

-- ---- the lowest brick, and the rest
-- what is below every brick of a set isn't in it
removed_lower : (b j : ℕ) (s : List ℕ) → b < j → IsRising j s → removed b s ≡ s
removed_lower b j [] l h = refl
removed_lower b j (x ∷ xs) l h = pick (b == x) refl (removed_lower b (suc x) xs (omega (arith, h.0)) h.1)
  where
    pick : (e : Bool) → (b == x) ≡ e → removed b xs ≡ xs → (if e then removed b xs else x ∷ removed b xs) ≡ x ∷ xs
    pick true e ih = absurd (omega (arith, eqb-true b x e, h.0))
    pick false e ih = ap (λ (t : List ℕ). x ∷ t) ih

-- without its lowest brick, a set is what stands behind it
removed_lowest : (k x : ℕ) (xs : List ℕ) → IsRising k (x ∷ xs) → removed x (x ∷ xs) ≡ xs
removed_lowest k x xs h = grind (arith, nat_tests, removed_lower x (suc x) xs (omega arith) h.1)

-- a set is its lowest brick, and then what is left without it
pub lowest_first : (s left : List ℕ) (b : ℕ) → is_nothing s ≡ false → IsRising 0 s → b ≡ lowest s → left ≡ removed b s → (s ≡ b ∷ left) × IsRising 0 left
lowest_first [] left b h r e m = absurd (cc h)
lowest_first (x ∷ xs) left b h r e m =
    let rest : left ≡ xs = m ∙ ap (λ (y : ℕ). removed y (x ∷ xs)) e ∙ removed_lowest 0 x xs r in
    (rw (e, rest) refl, rw rest (rising_from_lower (suc x) 0 xs (omega arith) r.1))

-- ---- two rising lists with the same numbers are the same
pub not_lower : (k : ℕ) (s : List ℕ) (b : ℕ) → IsRising k s → b < k → member s b ≡ false
not_lower k [] b h l = refl
not_lower k (x ∷ xs) b h l = rest (x == b) refl (not_lower (suc x) xs b h.1 (omega (arith, h.0, l)))
  where
    rest : (e : Bool) → (x == b) ≡ e → member xs b ≡ false → (e || member xs b) ≡ false
    rest true e ih = absurd (omega (arith, eqb-true x b e, h.0, l))
    rest false e ih = ih

pub has_first : (x : ℕ) (xs : List ℕ) → member (x ∷ xs) x ≡ true
has_first x xs = rw (same_number x) refl

sides : (x y : ℕ) → (x < y) ⊎ ((y < x) ⊎ (x ≡ y))
sides x y = grind arith

pub rising_same : (k : ℕ) (s t : List ℕ) → IsRising k s → IsRising k t → ((b : ℕ) → member s b ≡ member t b) → s ≡ t
rising_same k [] [] hs ht e = refl
rising_same k [] (y ∷ ys) hs ht e = let h = e y in let f = has_first y ys in absurd (cc)
rising_same k (x ∷ xs) [] hs ht e = let h = e x in let f = has_first x xs in absurd (cc)
rising_same k (x ∷ xs) (y ∷ ys) hs ht e =
    elim (sides x y) [
      | inl less ↦ let h = e x in let f = has_first x xs in let g = not_lower y (y ∷ ys) x (omega arith, ht.1) less in absurd (cc)
      | inr other ↦ elim other [
        | inl more ↦ let h = e y in let f = has_first y ys in let g = not_lower x (x ∷ xs) y (omega arith, hs.1) more in absurd (cc)
        | inr same ↦ first_same same (rising_same (suc x) xs ys hs.1 (subst (λ (n : ℕ). IsRising (suc n) ys) (sym same) ht.1) (rest same))
      ]
    ]
  where
    first_same : x ≡ y → xs ≡ ys → x ∷ xs ≡ y ∷ ys
    first_same f g = cc

    rest : x ≡ y → (b : ℕ) → member xs b ≡ member ys b
    rest same b = by (x == b) refl (y == b) refl
      where
        by : (u : Bool) → (x == b) ≡ u → (v : Bool) → (y == b) ≡ v → member xs b ≡ member ys b
        by true f v g = not_lower (suc x) xs b hs.1 (omega (arith, eqb-true x b f)) ∙ sym (not_lower (suc y) ys b ht.1 (omega (arith, eqb-true x b f, same)))
        by false f true g = absurd (let q : x ≡ b = same ∙ eqb-true y b g in grind (arith, nat_tests, f, q))
        by false f false g = let h = e b in rw (f, g) at h

-- ---- the bricks of the five that pass
pub has_passing : (p : ℕ → Bool) (s : List ℕ) (b : ℕ) → member (filter p s) b ≡ (p b && member s b)
has_passing p [] b = none (p b)
  where
    none : (u : Bool) → false ≡ (u && false)
    none true = refl
    none false = refl
has_passing p (x ∷ xs) b = go (p x) refl (x == b) refl (has_passing p xs b)
  where
    here : (x == b) ≡ true → p b ≡ p x
    here f = ap p (sym (eqb-true x b f))

    both : (u : Bool) → u ≡ true → true ≡ (u && true)
    both u e = rw e refl

    neither : (u : Bool) → u ≡ false → (v w : Bool) → (u && v) ≡ (u && w)
    neither u e v w = rw e refl

    go : (u : Bool) → p x ≡ u → (v : Bool) → (x == b) ≡ v → member (filter p xs) b ≡ (p b && member xs b)
        → member (if u then x ∷ filter p xs else filter p xs) b ≡ (p b && (v || member xs b))
    go true e true f ih = rw f (both (p b) (here f ∙ e))
    go true e false f ih = rw f ih
    go false e true f ih = ih ∙ neither (p b) (here f ∙ e) (member xs b) true
    go false e false f ih = ih

-- a set that has just the bricks that pass, all below five
pub five_is : (p : ℕ → Bool) (s : List ℕ) → IsRising 0 s → ((b : ℕ) → member s b ≡ p b) → ((b : ℕ) → p b ≡ true → b < 5) → filter p all_five ≡ s
five_is p s rising has small = rising_same 0 (filter p all_five) s (rising_five p) rising each
  where
    each : (b : ℕ) → member (filter p all_five) b ≡ member s b
    each b = has_passing p all_five b ∙ by (p b) refl ∙ sym (has b)
      where
        by : (u : Bool) → p b ≡ u → (u && member all_five b) ≡ u
        by true e = from_table 5 (λ x. member all_five x) refl b (small b e)
        by false e = refl
