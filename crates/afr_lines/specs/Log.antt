-- The log as contracts see it: a list of lines, the newest first.
use Rattle.std.specs.Prelude.{ℕ, ◌-◌, ◌==◌, List, [], ◌∷◌, Option, Some, None, length, drop, option_and_then, if◌then◌else◌}
use Rattle.afr_object.specs.declared.change.Change.{Change}
use Rattle.afr_lines.specs.declared.line.Line.{Line}
use Rattle.afr_lines.specs.declared.line.Line.TheVariants.{Begin}

-- what stands at a position, counted from the oldest line
abbrev pub from_oldest : {A : Type 0} → ℕ → List A → Option A
from_oldest k [] = None
from_oldest k (x ∷ older) = if k == length older then Some x else from_oldest k older

-- the first i lines
abbrev pub before : ℕ → List Line → List Line
before i log = drop (length log - i) log

-- a fact of the log at every moment so far
abbrev pub EveryPrefix : (List Line → Type 0) → List Line → Type 0
EveryPrefix P [] = P []
EveryPrefix P (line ∷ older) = P (line ∷ older) × EveryPrefix P older

-- a fact of each line and the lines before it
abbrev pub EachLine : (Line → List Line → Type 0) → List Line → Type 0
EachLine R [] = Unit {0}
EachLine R (line ∷ older) = R line older × EachLine R older

-- the change that a line begins
abbrev pub change_of : Line → Option Change
change_of (Begin actor change) = Some change
change_of line = None

-- the change of the attempt that begins at a position
abbrev pub change_at : ℕ → List Line → Option Change
change_at k log = option_and_then change_of (from_oldest k log)
