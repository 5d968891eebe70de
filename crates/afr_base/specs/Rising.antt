-- Lists of numbers in rising order.
use Rattle.std.specs.Prelude.{ℕ, suc, ◌≤◌, List, [], ◌∷◌}

-- the numbers rise, and none is below k
abbrev pub IsRising : ℕ → List ℕ → Type 0
IsRising k [] = Unit {0}
IsRising k (x ∷ xs) = (k ≤ x) × IsRising (suc x) xs
