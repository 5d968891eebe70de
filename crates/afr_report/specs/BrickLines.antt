-- Logs whose events name bricks that a volume may have.
use Rattle.std.specs.Prelude.{◌<◌, List, [], ◌∷◌}
use Rattle.afr_lines.specs.declared.line.Event.{Event}
use Rattle.afr_lines.specs.declared.line.Event.TheVariants as event
use Rattle.afr_lines.specs.declared.line.Line.{Line}
use Rattle.afr_lines.specs.declared.line.Line.TheVariants as line_of

-- an event that stops or starts a brick names one of five
abbrev pub IsBrickEvent : Event → Type 0
IsBrickEvent (event.Stop b) = b.0 < 5
IsBrickEvent (event.Start b) = b.0 < 5
IsBrickEvent other = Unit {0}

-- a line that stops or starts a brick names one of five
abbrev pub IsBrickLine : Line → Type 0
IsBrickLine (line_of.Event e) = IsBrickEvent e
IsBrickLine other = Unit {0}

-- each line of the log that stops or starts a brick names one of five
abbrev pub AreBrickLines : List Line → Type 0
AreBrickLines [] = Unit {0}
AreBrickLines (line ∷ older) = IsBrickLine line × AreBrickLines older
