-- Where an actor stands in its works, and which of its lines open sessions.
use Rattle.std.specs.Prelude.{ℕ, Bool, true, false, List, [], ◌∷◌, if◌then◌else◌}
use Rattle.afr_lines.specs.Work.{is_of}
use Rattle.afr_lines.specs.declared.line.Line.{Line}
use Rattle.afr_lines.specs.declared.line.Line.TheVariants.{Ask, End, HealEnd}
use Rattle.afr_lines.specs.declared.request.Request.TheVariants.{Lock, Index}
use Rattle.afr_lines.specs.declared.lock.Domain.TheVariants.{Heal}

-- where an actor stands in its works: its next line is a work's first, it has asked for an index alone, its last line ended a heal, or it is within
pub data Place : Type 0 where
  Fresh : Place
  Indexed : Place
  Between : Place
  Within : Place

-- what one more line of the actor makes of it
abbrev pub next_place : Place → Line → Place
next_place Fresh (Ask a b Index told took) = Indexed
next_place place (End a reply) = Fresh
next_place place (HealEnd a g kind reply) = Between
next_place place line = Within

-- where an actor stands after these lines, the newest first
abbrev pub place_of : ℕ → List Line → Place
place_of a [] = Fresh
place_of a (line ∷ older) = if is_of a line then next_place (place_of a older) line else place_of a older

-- whether a line asks for a lock of a heal
abbrev pub is_heal_lock : Line → Bool
is_heal_lock (Ask a b (Lock Heal area) told took) = true
is_heal_lock line = false

-- whether a line of the actor opens sessions: it is the first of a work or of a heal
abbrev pub opens : Place → Line → Bool
opens Fresh line = true
opens Indexed line = is_heal_lock line
opens Between line = is_heal_lock line
opens Within line = false
