-- How many commands and rounds a log has ended.
use Rattle.std.specs.Prelude.{ℕ, ◌+◌, List, [], ◌∷◌, if◌then◌else◌}
use Rattle.afr_lines.specs.declared.line.Line.{Line}
use Rattle.afr_lines.specs.Work.{is_end}

-- the End lines of a log
abbrev pub works_ended : List Line → ℕ
works_ended [] = 0
works_ended (line ∷ older) = if is_end line then works_ended older + 1 else works_ended older
