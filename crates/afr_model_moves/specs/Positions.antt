-- A list of lines, the newest first, as lines by their positions.
use Rattle.std.specs.Prelude.{List}
use Rattle.afr_lines.specs.declared.line.Line.{Line}
use Rattle.afr_lines.specs.Log.{from_oldest}
use Rattle.afr_model_moves.specs.Past.{Log}

-- the lines of a list by their positions
abbrev pub by_position : List Line → Log
by_position log q = from_oldest q log
