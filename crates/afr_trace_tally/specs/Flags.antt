-- A flag, or a number, for each of the five bricks that a volume may have.
use Rattle.std.specs.Prelude.{ℕ, Bool, List, [], ◌∷◌}

-- a flag for each brick
abbrev pub flags : (ℕ → Bool) → List Bool
flags f = f 0 ∷ f 1 ∷ f 2 ∷ f 3 ∷ f 4 ∷ []

-- a number for each brick
abbrev pub five : (ℕ → ℕ) → List ℕ
five f = f 0 ∷ f 1 ∷ f 2 ∷ f 3 ∷ f 4 ∷ []
