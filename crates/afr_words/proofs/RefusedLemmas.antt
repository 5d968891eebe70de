-- Whether a word is dashed, decided over a list of words.
use Rattle.std.proofs.Common.{ℕ, ◌<◌, List, [], ◌∷◌, length, IsTrue, Bool, true, false, MatchBool, refl, arith}
use Rattle.std.specs.List.{AllWithin, Any, HoldsAt, slice_index_or}
use Rattle.std.proofs.lemmas.List.{get_or_default}
use Rattle.std.proofs.lemmas.Bool.{false≢true}

module _ {X : Type 0} (P : X → Type 0) where
  -- what holds at a place holds of an element
  Any-at : (xs : List X) (k : ℕ) → k < length xs → HoldsAt P xs k → Any P xs
  Any-at [] k lt h = absurd (omega arith)
  Any-at (x ∷ xs) k lt h = (k, slice_index_or (x ∷ xs) k x, lt, get_or_default (x ∷ xs) k _ x lt, h x)

  -- a search that says yes and no gives whether some element has it
  pub Any-from_cases : (r : Bool) (xs : List X) → MatchBool r ((k : ℕ) × (k < length xs) × HoldsAt P xs k) (AllWithin (λ x. P x → ⊥) xs 0 (length xs))
      → (IsTrue r → Any P xs) × (Any P xs → IsTrue r)
  Any-from_cases true xs h = (λ _. Any-at xs h.0 h.1 h.2, λ _. refl)
  Any-from_cases false xs h = (λ e. absurd (false≢true e), λ w. absurd (h w.0 w.1 (omega arith) w.2 (rw w.3 w.4)))
