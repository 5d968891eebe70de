-- Sets of bricks from five answers, and the first brick of a set.
use Rattle.std.specs.Prelude.{ℕ, Bool, List, [], ◌∷◌, Option, None, Some}
use Rattle.afr_base.specs.Bricks.{added_if}
use Rattle.afr_base.specs.declared.ids.BrickId.{BrickId}

-- the bricks of the five whose flags are set
abbrev pub picked : Bool → Bool → Bool → Bool → Bool → List ℕ
picked a b c d e = added_if e 4 (added_if d 3 (added_if c 2 (added_if b 1 (added_if a 0 []))))

-- the lowest brick, if there is one
abbrev pub first_in : List ℕ → Option BrickId
first_in [] = None
first_in (x ∷ xs) = Some (record { 0 = x })
