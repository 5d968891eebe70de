-- Where the plan ends in a source that has a trace too.
use Rattle.std.specs.Prelude.{◌≡◌, ◌<◌, ◌+◌, ◌-◌, ◌==◌, ◌||◌, ◌&&◌, ℕ, Bool, true, false, List, codes, drop, length, nat_eq, slice_index}
use Rattle.std.specs.List.{starts_with}

-- a line begins at this place
abbrev pub begins_line : List ℕ → ℕ → Bool
begins_line bytes k = (k == 0) || (slice_index bytes (k - 1) == 10)

-- the line that begins at this place is exactly `end`
abbrev pub is_end_at : List ℕ → ℕ → Bool
is_end_at bytes k = begins_line bytes k && starts_with nat_eq (drop k bytes) (codes "end\n")

-- how long the plan part of a source is: up to and with its first line that is exactly `end`, or all of it where there is none
pub data IsPlanPart (bytes : List ℕ) : ℕ → Type 0 where
  UpToEnd : (k : ℕ) → k < length bytes → is_end_at bytes k ≡ true → ((j : ℕ) → j < k → is_end_at bytes j ≡ false) → IsPlanPart bytes (k + 4)
  Whole : ((k : ℕ) → k < length bytes → is_end_at bytes k ≡ false) → IsPlanPart bytes (length bytes)
