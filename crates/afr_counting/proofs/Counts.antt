-- A count falls where a test is passed by fewer.
use Rattle.std.proofs.Common.{◌≡◌, ℕ, zero, suc, ◌+◌, ◌<◌, ◌≤◌, Bool, true, false, ◌⊎◌, inl, inr, refl, sym, ◌∙◌, ap, arith, true≢false}
use Rattle.std.specs.Prelude.{if◌then◌else◌}
use Rattle.afr_base.specs.Majority.{count_below}
use Rattle.afr_base.proofs.TestLemmas.{below_or_last}

pub count_most : (n : ℕ) (p : ℕ → Bool) → count_below n p ≤ n
count_most zero p = omega arith
count_most (suc n) p = go (p n) (count_most n p)
  where
    go : (b : Bool) → count_below n p ≤ n → (if b then 1 else 0) + count_below n p ≤ suc n
    go true h = omega (arith, h)
    go false h = omega (arith, h)

pub count_less : (n : ℕ) (p q : ℕ → Bool) → ((x : ℕ) → x < n → q x ≡ true → p x ≡ true) → count_below n q ≤ count_below n p
count_less zero p q less = omega arith
count_less (suc n) p q less = go (q n) refl (p n) refl (count_less n p q (λ x l h. less x (omega (arith, l)) h))
  where
    go : (b : Bool) → q n ≡ b → (a : Bool) → p n ≡ a → count_below n q ≤ count_below n p → (if b then 1 else 0) + count_below n q ≤ (if a then 1 else 0) + count_below n p
    go true e true f h = omega (arith, h)
    go true e false f h = absurd (true≢false (sym (less n (omega arith) e) ∙ f))
    go false e a f h = omega (arith, h)

-- one less where b doesn't pass any more
pub count_falls : (n : ℕ) (p q : ℕ → Bool) (b : ℕ) → ((x : ℕ) → x < n → q x ≡ true → p x ≡ true) → b < n → p b ≡ true → q b ≡ false → count_below n q + 1 ≤ count_below n p
count_falls zero p q b less low here gone = absurd (omega (arith, low))
count_falls (suc n) p q b less low here gone = elim (below_or_last b n low) [
  | inl before ↦ go (q n) refl (p n) refl (count_falls n p q b (λ x l h. less x (omega (arith, l)) h) before here gone)
  | inr last ↦ now (q n) (ap q (sym last) ∙ gone) (p n) (ap p (sym last) ∙ here) (count_less n p q (λ x l h. less x (omega (arith, l)) h))
]
  where
    go : (y : Bool) → q n ≡ y → (x : Bool) → p n ≡ x → count_below n q + 1 ≤ count_below n p → (if y then 1 else 0) + count_below n q + 1 ≤ (if x then 1 else 0) + count_below n p
    go true e true f h = omega (arith, h)
    go true e false f h = absurd (true≢false (sym (less n (omega arith) e) ∙ f))
    go false e x f h = omega (arith, h)

    now : (y : Bool) → y ≡ false → (x : Bool) → x ≡ true → count_below n q ≤ count_below n p → (if y then 1 else 0) + count_below n q + 1 ≤ (if x then 1 else 0) + count_below n p
    now true e x f h = absurd (true≢false e)
    now false e true f h = omega (arith, h)
    now false e false f h = absurd (true≢false (sym f))
