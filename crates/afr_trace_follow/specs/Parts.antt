-- Where the present work of an actor begins in the log, and its lines from a position on.
use Rattle.std.specs.Prelude.{ℕ, suc, ◌&&◌, nat_le, List, [], ◌∷◌, length, if◌then◌else◌}
use Rattle.afr_lines.specs.Work.{Work, is_end, is_of}
use Rattle.afr_lines.specs.declared.line.Line.{Line}

-- a line of actor a from a position on, before the lines of a work
abbrev pub line_from : ℕ → ℕ → Line → List Line → Work → Work
line_from a from line older w = if is_of a line && nat_le from (length older) then (line, older) ∷ w else w

-- the lines of actor a from a position on
abbrev pub lines_from : ℕ → ℕ → List Line → Work
lines_from a from [] = []
lines_from a from (line ∷ older) = line_from a from line older (lines_from a from older)

-- where its present work begins: after its last End line
abbrev pub work_start : ℕ → List Line → ℕ
work_start a [] = 0
work_start a (line ∷ older) = if is_of a line then (if is_end line then suc (length older) else work_start a older) else work_start a older
