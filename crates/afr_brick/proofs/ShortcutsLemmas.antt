-- What stands in slots after one of them, or all, got another place.
use Rattle.std.proofs.Common.{◌≡◌, ℕ, suc, zero, Bool, true, false, List, [], ◌∷◌, ◌++◌, Some, set, take, sym, ◌⊎◌, inl, inr, if◌then◌else◌, slice_get}
use Rattle.std.proofs.lemmas.Option.{none-some, same_Some}
use Rattle.std.specs.Prelude.{replicate}
use Rattle.afr_base.specs.declared.ids.Gfid.{Gfid}
use Rattle.afr_brick.specs.Placed.{Keeps}

-- the entry is this, or stood there before
abbrev Stood : Gfid × ℕ → List (Gfid × ℕ) → Gfid × ℕ → Type 0
Stood x old e = (e ≡ x) ⊎ ((k : ℕ) × (slice_get old k ≡ Some e))

past_one : (x o e : Gfid × ℕ) (old : List (Gfid × ℕ)) → Stood x old e → Stood x (o ∷ old) e
past_one x o e old (inl this) = inl this
past_one x o e old (inr that) = inr (suc that.0, that.1)

all_same : (m i : ℕ) (x e : Gfid × ℕ) → slice_get (replicate m x) i ≡ Some e → e ≡ x
all_same zero i x e at = absurd (none-some _ at)
all_same (suc m) zero x e at = sym (same_Some _ _ at)
all_same (suc m) (suc i) x e at = all_same m i x e at

filled : (n m : ℕ) (old : List (Gfid × ℕ)) (x : Gfid × ℕ) (i : ℕ) (e : Gfid × ℕ) → slice_get (take n old ++ replicate m x) i ≡ Some e → Stood x old e
filled zero m old x i e at = inl (all_same m i x e at)
filled (suc n) m [] x i e at = inl (all_same m i x e at)
filled (suc n) m (o ∷ old) x zero e at = inr (zero, at)
filled (suc n) m (o ∷ old) x (suc i) e at = past_one x o e old (filled n m old x i e at)

pub filled_if : (ok : Bool) (n m : ℕ) (g : Gfid) (place : ℕ) (old : List (Gfid × ℕ)) → Keeps g place old (if ok then take n old ++ replicate m (g, place) else old)
filled_if true n m g place old = λ i e at. filled n m old (g, place) i e at
filled_if false n m g place old = λ i e at. inr (i, at)

pub replaced : (old : List (Gfid × ℕ)) (at : ℕ) (g : Gfid) (place : ℕ) → Keeps g place old (set old at (g, place))
replaced old at g place = go old at
  where
    go : (old : List (Gfid × ℕ)) (at i : ℕ) (e : Gfid × ℕ) → slice_get (set old at (g, place)) i ≡ Some e → Stood (g, place) old e
    go [] at i e h = absurd (none-some _ h)
    go (o ∷ old) zero zero e h = inl (sym (same_Some _ _ h))
    go (o ∷ old) zero (suc i) e h = inr (suc i, h)
    go (o ∷ old) (suc at) zero e h = inr (zero, h)
    go (o ∷ old) (suc at) (suc i) e h = past_one (g, place) o e old (go old at i e h)
