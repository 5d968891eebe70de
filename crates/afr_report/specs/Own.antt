-- The lines that tell how far an actor has come, by their positions in a log.
use Rattle.std.specs.Prelude.{ℕ, ◌==◌, Bool, false, List, [], ◌∷◌, ◌++◌, Option, Some, None, if◌then◌else◌, length, replicate, slice_get, slice_index_or, slice_set}
use Rattle.afr_lines.specs.declared.line.Event.TheVariants.{Kill}
use Rattle.afr_lines.specs.declared.line.Line.{Line}
use Rattle.afr_lines.specs.declared.line.Line.TheVariants.{End, HealEnd, Event}
use Rattle.afr_log.specs.Log.{unasked}

-- the actor of whom a line tells how far it has come: its work or its heal ends, or it is killed
abbrev pub subject_of : Line → Option ℕ
subject_of (End x reply) = Some x.0
subject_of (HealEnd x g kind reply) = Some x.0
subject_of (Event (Kill x)) = Some x.0
subject_of line = None

-- whether it is this one
abbrev pub is_one : ℕ → Option ℕ → Bool
is_one a None = false
is_one a (Some x) = x == a

-- a line, if there is one, in front of others
abbrev pub in_front : Option Line → List Line → List Line
in_front None lines = lines
in_front (Some line) lines = line ∷ lines

-- the lines of a log at these positions that are no requests
abbrev pub lines_at : List Line → List ℕ → List Line
lines_at log [] = []
lines_at log (at ∷ earlier) = in_front (unasked (slice_get log at)) (lines_at log earlier)

-- the lines that tell of an actor
abbrev pub own_lines : ℕ → List Line → List Line
own_lines a [] = []
own_lines a (line ∷ older) = if is_one a (subject_of line) then line ∷ own_lines a older else own_lines a older

-- a position at the end of an actor's list
abbrev pub placed : Option ℕ → ℕ → List (List ℕ) → List (List ℕ)
placed None at lists = lists
placed (Some x) at lists = slice_set lists x (slice_index_or lists x [] ++ at ∷ [])

-- for each actor of a plan, by its number, the positions of the lines that tell of it, the oldest first
abbrev pub places : List Line → List (List ℕ)
places [] = replicate 20 []
places (line ∷ older) = placed (subject_of line) (length older) (places older)
