-- What a test gives of the bricks 0 to 4.
use Rattle.std.specs.Prelude.{◌≡◌, ℕ, Bool, true, false, Option, None, Some}

-- these are what the test gives of the five bricks, in order
pub record Gives (test : ℕ → Bool) (a b c d e : Bool) : Type 0 where
  pub first : a ≡ test 0
  pub second : b ≡ test 1
  pub third : c ≡ test 2
  pub fourth : d ≡ test 3
  pub fifth : e ≡ test 4

-- a read is named
abbrev pub has_read : Option ℕ → Bool
has_read None = false
has_read (Some t) = true
