-- Parts of a work that a line is judged by.
use Rattle.std.specs.Prelude.{ℕ, ◌<◌, ◌==◌, Bool, true, false, List, [], ◌∷◌, Option, Some, None, length, if◌then◌else◌}
use Rattle.afr_lines.specs.Work.{Work}
use Rattle.afr_lines.specs.declared.line.Line.{Line}
use Rattle.afr_lines.specs.declared.line.Line.TheVariants.{Ask}
use Rattle.afr_lines.specs.declared.request.Request.TheVariants as request
use Rattle.afr_model.specs.Healing.{heal_by}
use Rattle.afr_trace_read.specs.declared.kinds.Doing.TheVariants as doing
use Rattle.afr_trace_read.specs.declared.kinds.TraceLine.{TraceLine}
use Rattle.afr_trace_read.specs.declared.kinds.TraceLine.TheVariants as trace_line

-- a work, or its present heal
abbrev pub in_work : Bool → Work → Work
in_work true w = heal_by w
in_work false w = w

-- a line of actor a lists
abbrev pub lists : ℕ → Line → Bool
lists a (Ask x b (request.List g) told took) = x.0 == a
lists a line = false

-- the position of its last line that does
abbrev pub last_list : ℕ → List Line → Option ℕ
last_list a [] = None
last_list a (line ∷ older) = if lists a line then Some (length older) else last_list a older

-- a brick that the text of a line asks is one of five
abbrev pub AsksFive : TraceLine → Type 0
AsksFive (trace_line.Of a (doing.Ask b r told)) = b.0 < 5
AsksFive line = Unit {0}
