-- Sets of bricks, as tests on numbers.
use Rattle.std.specs.Prelude.{ℕ, zero, suc, Bool, true, false, ◌||◌, ◌==◌, if◌then◌else◌}

-- whether one of the first n bricks is in the set
abbrev pub any : ℕ → (ℕ → Bool) → Bool
any zero set = false
any (suc n) set = set n || any n set

-- no brick
abbrev pub empty : ℕ → Bool
empty x = false

-- the set with one more brick
abbrev pub with : (ℕ → Bool) → ℕ → ℕ → Bool
with set b x = if x == b then true else set x

-- the set with one brick less
abbrev pub without : (ℕ → Bool) → ℕ → ℕ → Bool
without set b x = if x == b then false else set x
