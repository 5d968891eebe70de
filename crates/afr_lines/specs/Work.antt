-- The works of an actor: its lines, cut after each of its End lines.
use Rattle.std.specs.Prelude.{ℕ, ◌+◌, ◌==◌, ◌||◌, Bool, true, false, List, [], ◌∷◌, Option, Some, None, if◌then◌else◌}
use Rattle.afr_lines.specs.declared.line.Event.TheVariants.{Kill}
use Rattle.afr_lines.specs.declared.line.Line.{Line}
use Rattle.afr_lines.specs.declared.line.Line.TheVariants.{Ask, Begin, HealBegin, End, HealEnd, Event}
use Rattle.afr_lines.specs.declared.reply.Reply.{Reply}

-- whether an actor wrote a line; an event is nobody's
abbrev pub is_of : ℕ → Line → Bool
is_of a (Ask x brick request told took) = x.0 == a
is_of a (Begin x change) = x.0 == a
is_of a (HealBegin x g kind) = x.0 == a
is_of a (End x reply) = x.0 == a
is_of a (HealEnd x g kind reply) = x.0 == a
is_of a (Event event) = false

-- whether a line is an event
abbrev pub is_event : Line → Bool
is_event (Event event) = true
is_event line = false

-- whether a line ends a work
abbrev pub is_end : Line → Bool
is_end (End x reply) = true
is_end line = false

-- what a line answers a command of an actor
abbrev pub reply_by : ℕ → Line → Option Reply
reply_by a (End x reply) = if x.0 == a then Some reply else None
reply_by a line = None

-- whether a line ends a work of an actor
abbrev pub ends_work : ℕ → Line → Bool
ends_work a (End x reply) = x.0 == a
ends_work a line = false

-- how many works of an actor have ended
abbrev pub ended : ℕ → List Line → ℕ
ended a [] = 0
ended a (line ∷ older) = if ends_work a line then ended a older + 1 else ended a older

-- the lines of an actor's present work, the newest first, each with the lines before it
abbrev pub Work : Type 0
Work = List (Line × List Line)

-- the lines of the present work of actor a: those after its last End line
abbrev pub work : ℕ → List Line → Work
work a [] = []
work a (line ∷ older) = if is_of a line then (if is_end line then [] else (line, older) ∷ work a older) else work a older

-- a line kills an actor
abbrev pub kills : ℕ → Line → Bool
kills a (Event (Kill x)) = x.0 == a
kills a line = false

-- whether an actor was killed
abbrev pub is_killed : ℕ → List Line → Bool
is_killed a [] = false
is_killed a (line ∷ older) = kills a line || is_killed a older

-- how many events have come
abbrev pub events_made : List Line → ℕ
events_made [] = 0
events_made (line ∷ older) = if is_event line then events_made older + 1 else events_made older
