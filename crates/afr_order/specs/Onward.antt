-- A log that goes on behind another one.
use Rattle.std.specs.Prelude.{◌≡◌, List, ◌++◌}
use Rattle.afr_lines.specs.declared.line.Line.{Line}

-- some lines more, the newest first
pub record Extends (old new : List Line) : Type 0 where
  pub later : List Line
  pub whole : new ≡ later ++ old
