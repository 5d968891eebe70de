-- The stamps of one cell on one brick rise.
use Rattle.std.proofs.Common.{◌≡◌, ℕ, zero, suc, ◌<◌, ◌≤◌, ◌⊎◌, inl, inr, sym, ◌∙◌, subst, arith}
use Rattle.std.proofs.lemmas.Bool.{cases_lt}

module _ (stamp : ℕ → ℕ) (Acts : ℕ → ℕ → Type 0) (later : (n t : ℕ) → Acts n t → n < t) (apart : (n m t u : ℕ) → Acts n t → Acts m u → n < m → t < m) (start : stamp 0 ≡ 0)
    (step : (t : ℕ) → (stamp (suc t) ≡ stamp t) ⊎ ((n : ℕ) × Acts n t × (stamp (suc t) ≡ suc n))) where
  -- a number is on the cell only after a line that put it there
  pub stamped : (t n : ℕ) → stamp t ≡ suc n → (m : ℕ) × (m < t) × Acts n m
  stamped zero n e = absurd (omega (arith, e, start))
  stamped (suc t) n e =
      elim (step t) [
        | inl same ↦ (let before = stamped t n (sym same ∙ e) in (before.0, omega arith, before.2))
        | inr w ↦ (t, omega arith, subst (λ k. Acts k t) (omega (arith, w.2, e)) w.1)
      ]

  -- no number is put under a greater one
  pub kept_under : (t n : ℕ) → Acts n t → stamp t ≤ suc n
  kept_under t n acts = go (stamp t) refl_of
    where
      refl_of : stamp t ≡ stamp t
      refl_of = λ i. stamp t

      go : (s : ℕ) → stamp t ≡ s → s ≤ suc n
      go zero e = omega arith
      go (suc m) e =
          elim (cases_lt n m) [
            | inl over ↦ (
                let was = stamped t m e in
                let early : t < m = apart n m t was.0 acts was.2 over in
                absurd (omega (arith, early, was.1, later m was.0 was.2))
                )
            | inr fine ↦ omega arith
          ]

  pub rises_once : (t : ℕ) → stamp t ≤ stamp (suc t)
  rises_once t = elim (step t) [ inl same ↦ omega (arith, same) | inr w ↦ omega (arith, w.2, kept_under t w.0 w.1) ]
