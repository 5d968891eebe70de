-- A table whose gfids rise has no more objects than a list with all their numbers has.
use Rattle.std.proofs.Common.{◌≡◌, ℕ, ◌+◌, ◌<◌, ◌≤◌, ◌==◌, ◌⊎◌, inl, inr, Bool, true, false, cond, refl, sym, arith, List, [], ◌∷◌, length, Some}
use Rattle.std.specs.Prelude.{if◌then◌else◌}
use Rattle.std.proofs.lemmas.Bool.Decides.{nat_tests}
use Rattle.std.proofs.lemmas.Bool.{eqb-true}
use Rattle.afr_base.specs.Marks.{is_no_marks}
use Rattle.afr_object.specs.TablesLemmas.{same_gfid}
use Rattle.afr_object.specs.Indexed.{index_of}
use Rattle.afr_object.specs.Tables.{Table, copy_at}
use Rattle.afr_object.specs.Object.{Object}
use Rattle.afr_model.proofs.Rises.{AreAbove, Rises}
use Rattle.afr_law_bound.proofs.Circle.{In}

apart : (x y : ℕ) → (y == x) ≡ false → x ≡ y → ⊥
apart x y e same = grind (arith, nat_tests, e, same)

-- ---- a list without one of its numbers
abbrev without : ℕ → List ℕ → List ℕ
without x [] = []
without x (y ∷ ys) = if y == x then ys else y ∷ without x ys

shorter : (x : ℕ) (ys : List ℕ) → In x ys → length (without x ys) + 1 ≤ length ys
shorter x [] h = absurd h
shorter x (y ∷ ys) h = go (y == x) refl (λ k. shorter x ys k) h
  where
    go : (hit : Bool) → (y == x) ≡ hit → (In x ys → length (without x ys) + 1 ≤ length ys) → (x ≡ y) ⊎ In x ys → length (if hit then ys else y ∷ without x ys) + 1 ≤ length (y ∷ ys)
    go true e rest h = omega arith
    go false e rest (inl same) = absurd (apart x y e same)
    go false e rest (inr k) = (let l = rest k in omega (arith, l))

others_stay : (x z : ℕ) (ys : List ℕ) → x < z → In z ys → In z (without x ys)
others_stay x z [] low h = h
others_stay x z (y ∷ ys) low h = go (y == x) refl (λ k. others_stay x z ys low k) h
  where
    go : (hit : Bool) → (y == x) ≡ hit → (In z ys → In z (without x ys)) → (z ≡ y) ⊎ In z ys → In z (if hit then ys else y ∷ without x ys)
    go true e rest (inl same) = (let at : y ≡ x = eqb-true y x e in absurd (omega (arith, low, same, at)))
    go true e rest (inr k) = k
    go false e rest (inl same) = inl same
    go false e rest (inr k) = inr (rest k)

-- ---- the objects of a table
-- their numbers
abbrev pub numbers : Table → List ℕ
numbers [] = []
numbers (x ∷ t) = x.0.0 ∷ numbers t

all_above : (m z : ℕ) (t : Table) → AreAbove m t → In z (numbers t) → m < z
all_above m z [] h k = absurd k
all_above m z (x ∷ t) h (inl same) = (let low = h.0 in omega (arith, low, same))
all_above m z (x ∷ t) h (inr k) = all_above m z t h.1 k

pub no_longer : (t : Table) (ys : List ℕ) → Rises t → ((z : ℕ) → In z (numbers t) → In z ys) → length t ≤ length ys
no_longer [] ys h all = omega arith
no_longer (x ∷ t) ys h all =
    let less = shorter x.0.0 ys (all x.0.0 (inl refl)) in
    let rest = no_longer t (without x.0.0 ys) h.1 (λ z k. others_stay x.0.0 z ys (all_above x.0.0 z t h.0 k) (all z (inr k))) in
    omega (arith, less, rest)

-- each of these numbers has a copy
pub copy_there : (t : Table) (z : ℕ) → In z (numbers t) → (o : Object) × (copy_at (record { 0 = z }) t ≡ Some o)
copy_there [] z h = absurd h
copy_there (x ∷ t) z h = rw (same_gfid (record { 0 = z }) x.0) (go (z == x.0.0) refl (λ k. copy_there t z k) h)
  where
    go : (hit : Bool) → (z == x.0.0) ≡ hit → (In z (numbers t) → (o : Object) × (copy_at (record { 0 = z }) t ≡ Some o)) → (z ≡ x.0.0) ⊎ In z (numbers t) → (o : Object) × (cond hit (Some x.1) (copy_at (record { 0 = z }) t) ≡ Some o)
    go true e rest h = (x.1, refl)
    go false e rest (inl same) = absurd (apart x.0.0 z e (sym same))
    go false e rest (inr k) = rest k

-- an index lists no more than the table has
pub index_short : (t : Table) → length (index_of t) ≤ length t
index_short [] = omega arith
index_short (x ∷ t) = go (is_no_marks x.1.marks) (index_short t)
  where
    go : (none : Bool) → length (index_of t) ≤ length t → length (if none then index_of t else (x.0, x.1.what) ∷ index_of t) ≤ length (x ∷ t)
    go true h = omega (arith, h)
    go false h = omega (arith, h)
