-- All copies of one cell are equal where nothing is recorded against them, from facts about the lines that touch it.
use Rattle.std.proofs.Common.{◌≡◌, ℕ, zero, suc, ◌<◌, ◌≤◌, ◌⊎◌, inl, inr, refl, sym, ap, ◌∙◌, subst, arith}
use Rattle.std.proofs.lemmas.Bool.{cases_lt}

-- what became of the last number m on a copy, at a moment when nothing is recorded
pub data Fate (IsCopy : ℕ → Type 0) (Value : Type 0) (stamp : ℕ → ℕ → ℕ) (value : ℕ → ℕ → Value) (Acts : ℕ → ℕ → ℕ → Type 0) (Leaves : ℕ → Value → Type 0) (t m : ℕ) : Type 0 where
  -- each copy has it, or a later one
  Everywhere : ((c : ℕ) → IsCopy c → m < stamp t c) → Fate IsCopy Value stamp value Acts Leaves t m
  -- a heal gave each copy but its source something later
  Overtaken : (s : ℕ) → ((c : ℕ) → IsCopy c → (c ≡ s) ⊎ (suc m < stamp t c)) → Fate IsCopy Value stamp value Acts Leaves t m
  -- it is a piece of a heal, that gave each copy but its source what the source had at r, after a look there
  Brought : (s r l : ℕ) → ((c : ℕ) → IsCopy c → (c ≡ s) ⊎ (m < stamp t c)) → m ≤ r → r ≤ t → Acts m s l → Leaves (suc m) (value r s) → Fate IsCopy Value stamp value Acts Leaves t m

-- the copies of one cell
pub record Copies : Type 1 where
  pub IsCopy : ℕ → Type 0
  pub Value : Type 0
  pub stamp : ℕ → ℕ → ℕ  -- time, brick: suc of the last number that touched the cell, or 0
  pub value : ℕ → ℕ → Value
  pub Acts : ℕ → ℕ → ℕ → Type 0  -- number, brick, time
  pub Leaves : ℕ → Value → Type 0  -- 0 leaves the opening value, suc m what number m leaves, wherever it writes
  pub Quiet : ℕ → Type 0  -- all dirty and pending numbers of the plane are 0
  pub one : (m : ℕ) (v w : Value) → Leaves m v → Leaves m w → v ≡ w
  pub apart : (n m b t u : ℕ) → Acts n b t → Acts m b u → n < m → t < m
  pub start : (b : ℕ) → IsCopy b → (stamp 0 b ≡ 0) × Leaves 0 (value 0 b)
  pub writes : (t b : ℕ) → IsCopy b →
      ((stamp (suc t) b ≡ stamp t b) × (value (suc t) b ≡ value t b))
      ⊎ ((m : ℕ) × Acts m b t × (stamp (suc t) b ≡ suc m) × Leaves (suc m) (value (suc t) b))
  pub fate : (t : ℕ) → Quiet t → (b m : ℕ) → IsCopy b → stamp t b ≡ suc m → Fate IsCopy Value stamp value Acts Leaves t m

module _ (H : Copies) where
  -- a copy has what its stamp's number leaves
  left : (t b : ℕ) → H.IsCopy b → H.Leaves (H.stamp t b) (H.value t b)
  left zero b copy = subst (λ k. H.Leaves k (H.value 0 b)) (sym (H.start b copy).0) (H.start b copy).1
  left (suc t) b copy =
      elim (H.writes t b copy) [
        | inl same ↦ subst (λ k. H.Leaves k (H.value (suc t) b)) (sym same.0) (subst (H.Leaves (H.stamp t b)) (sym same.1) (left t b copy))
        | inr w ↦ subst (λ k. H.Leaves k (H.value (suc t) b)) (sym w.2) w.3
      ]

  left_as : (t b k : ℕ) → H.IsCopy b → H.stamp t b ≡ k → H.Leaves k (H.value t b)
  left_as t b k copy e = subst (λ k. H.Leaves k (H.value t b)) e (left t b copy)

  -- a source that got nothing later has what the heal found there
  kept : (t s m r l : ℕ) → H.IsCopy s → m ≤ r → r ≤ t → H.Acts m s l → H.Leaves (suc m) (H.value r s) → H.stamp t s ≤ suc m → H.Leaves (suc m) (H.value t s)
  kept zero s m r l copy low high look had under = subst (λ k. H.Leaves (suc m) (H.value k s)) (omega (arith, high)) had
  kept (suc t) s m r l copy low high look had under =
      elim (cases_lt t r) [
        | inl last ↦ subst (λ k. H.Leaves (suc m) (H.value k s)) (omega (arith, last, high)) had
        | inr early ↦ elim (H.writes t s copy) [
          | inl same ↦ subst (H.Leaves (suc m)) (sym same.1) (kept t s m r l copy low early look had (omega (arith, same.0, under)))
          | inr w ↦ elim (cases_lt w.0 m) [
            | inl less ↦ (let soon : t < m = H.apart w.0 m s t l w.1 look less in absurd (omega (arith, soon, low, early)))
            | inr more ↦ (let e : w.0 ≡ m = omega (arith, more, under, w.2) in subst (λ k. H.Leaves (suc k) (H.value (suc t) s)) e w.3)
          ]
        ]
      ]

  below : (t : ℕ) → H.Quiet t → (b c : ℕ) → H.IsCopy b → H.IsCopy c → H.stamp t c ≤ H.stamp t b → H.value t b ≡ H.value t c
  below t quiet b c copy other under = go (H.stamp t b) refl
    where
      go : (k : ℕ) → H.stamp t b ≡ k → H.value t b ≡ H.value t c
      go zero e = H.one 0 (H.value t b) (H.value t c) (left_as t b 0 copy e) (left_as t c 0 other (omega (arith, e, under)))
      go (suc m) e = by (H.fate t quiet b m copy e)
        where
          mine : H.Leaves (suc m) (H.value t b)
          mine = left_as t b (suc m) copy e

          same_left : H.Leaves (suc m) (H.value t c) → H.value t b ≡ H.value t c
          same_left its = H.one (suc m) (H.value t b) (H.value t c) mine its

          by : Fate H.IsCopy H.Value H.stamp H.value H.Acts H.Leaves t m → H.value t b ≡ H.value t c
          by (Everywhere has) = same_left (left_as t c (suc m) other (omega (arith, has c other, under, e)))
          by (Overtaken s has) =
              elim (has c other) [
                | inl it ↦ (elim (has b copy) [
                  | inl me ↦ ap (H.value t) (me ∙ sym it)
                  | inr over ↦ absurd (omega (arith, over, e))
                ])
                | inr over ↦ absurd (omega (arith, over, under, e))
              ]
          by (Brought s r l has low high look had) =
              elim (has c other) [
                | inl it ↦ (
                    let here : H.Leaves (suc m) (H.value r c) = subst (λ k. H.Leaves (suc m) (H.value r k)) (sym it) had in
                    let looked : H.Acts m c l = subst (λ k. H.Acts m k l) (sym it) look in
                    same_left (kept t c m r l other low high looked here (omega (arith, under, e)))
                    )
                | inr over ↦ same_left (left_as t c (suc m) other (omega (arith, over, under, e)))
              ]

  pub alike : (t : ℕ) → H.Quiet t → (b c : ℕ) → H.IsCopy b → H.IsCopy c → H.value t b ≡ H.value t c
  alike t quiet b c copy other =
      elim (cases_lt (H.stamp t b) (H.stamp t c)) [
        | inl less ↦ sym (below t quiet c b other copy (omega (arith, less)))
        | inr more ↦ below t quiet b c copy other more
      ]
