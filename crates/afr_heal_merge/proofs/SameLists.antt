-- Lists that are the same from one place on.
use Rattle.std.proofs.Common.{◌≡◌, ℕ, zero, suc, List, [], ◌∷◌, drop, Some, slice_get}

-- Two lists with one item at a place are the same from there on, where they are so from the next.
pub same_step : {A : Type 0} (xs ys : List A) (k : ℕ) (x : A) → slice_get xs k ≡ Some x → slice_get ys k ≡ Some x → drop (suc k) xs ≡ drop (suc k) ys → drop k xs ≡ drop k ys
same_step [] ys k x e f h = absurd (cc)
same_step (y ∷ xs) [] k x e f h = absurd (cc)
same_step (y ∷ xs) (z ∷ ys) zero x e f h =
    let first : y ≡ x = cc in
    let second : z ≡ x = cc in
    rw (first, second) (λ i. x ∷ h i)
same_step (y ∷ xs) (z ∷ ys) (suc k) x e f h = same_step xs ys k x e f h
