-- What was read of a source, to its end.
use Rattle.std.specs.Prelude.{◌≤◌, ℕ, List, Option, length}
use Rattle.std.specs.Io.KnownBytes.{Consumes, IsAtEnd}

-- the source was read to its end, and gave these bytes, at most so many
pub record WasRead (most : ℕ) (left now : Option (List ℕ)) (bytes : List ℕ) : Type 0 where
  pub came : Consumes left now bytes
  pub end : IsAtEnd now
  pub few : length bytes ≤ most
