-- What is handed on of a buffer.
use Rattle.std.specs.Prelude.{◌≡◌, ℕ, List, ◌++◌, Option}
use Rattle.std.specs.Io.KnownBytes.{Appends}

-- what was before is what the sink took and what is left
pub record HandsOn (old new : Option (List ℕ)) (before after : List ℕ) : Type 0 where
  pub taken : List ℕ
  pub appends : Appends old new taken
  pub whole : taken ++ after ≡ before
