-- One actor among all: what holds of it and of the others holds of all.
use Rattle.std.proofs.Common.{◌≡◌, ℕ, zero, suc, List, [], ◌∷◌, arith, subst, Some, slice_get, set}

-- one place of a list is set: what holds there, and elsewhere as before, holds of all
pub set_each : {A : Type 0} (P : ℕ → A → Type 0) (l : List A) (at : ℕ) (y : A) → ((i : ℕ) (z : A) → (at ≡ i → ⊥) → slice_get l i ≡ Some z → P i z) → P at y → (i : ℕ) (z : A) → slice_get (set l at y) i ≡ Some z → P i z
set_each P [] at y others own i z h = absurd (cc h)
set_each P (x ∷ l) zero y others own zero z h = subst (P 0) (cc h) own
set_each P (x ∷ l) zero y others own (suc i) z h = others (suc i) z (λ e. absurd (omega (arith, e))) h
set_each P (x ∷ l) (suc at) y others own zero z h = others 0 z (λ e. absurd (omega (arith, e))) h
set_each P (x ∷ l) (suc at) y others own (suc i) z h = set_each (λ j. P (suc j)) l at y (λ j z apart. others (suc j) z (λ e. apart (omega (arith, e)))) own i z h
