-- Sessions of actors with bricks.
use Rattle.afr_lines.specs.Places.{opens, place_of}
use Rattle.std.specs.Prelude.{ℕ, ◌==◌, ◌&&◌, ◌||◌, not, Bool, true, false, List, [], ◌∷◌, if◌then◌else◌}
use Rattle.afr_base.specs.Bricks.{member}
use Rattle.afr_lines.specs.Work.{is_of}
use Rattle.afr_lines.specs.declared.answer.Told.TheVariants.{NotConnected}
use Rattle.afr_lines.specs.declared.line.Event.{Event}
use Rattle.afr_lines.specs.declared.line.Event.TheVariants as event
use Rattle.afr_lines.specs.declared.line.Line.{Line}
use Rattle.afr_lines.specs.declared.line.Line.TheVariants.{Ask}
use Rattle.afr_lines.specs.declared.line.Line.TheVariants as line_of
use Rattle.afr_plan.specs.declared.plan.Plan.{Plan}
use Rattle.afr_model.specs.Report.{started_bricks}

-- what an event does to the link of an actor and a brick
abbrev pub linked_after : ℕ → ℕ → Event → Bool → Bool
linked_after a b (event.Cut x y) was = if (x.0 == a) && (y.0 == b) then false else was
linked_after a b (event.Join x y) was = if (x.0 == a) && (y.0 == b) then true else was
linked_after a b other was = was

-- whether the link of a and b is up after a line
abbrev pub linked_by : ℕ → ℕ → Line → Bool → Bool
linked_by a b (line_of.Event e) was = linked_after a b e was
linked_by a b line was = was

-- whether the link of an actor and a brick is up
abbrev pub is_linked : ℕ → ℕ → List Line → Bool
is_linked a b [] = true
is_linked a b (line ∷ older) = linked_by a b line (is_linked a b older)

-- whether a line of the actor opens its session with brick b, which is started and linked to it
abbrev pub opens_with : Plan → ℕ → ℕ → Line → List Line → Bool
opens_with p a b line older = is_of a line && opens (place_of a older) line && member (started_bricks p.shape.n older) b && is_linked a b older

-- whether an event ends the session of an actor with a brick: the brick stops, the link is cut, or the actor is killed
abbrev pub event_ends : ℕ → ℕ → Event → Bool
event_ends a b (event.Stop y) = y.0 == b
event_ends a b (event.Cut x y) = (x.0 == a) && (y.0 == b)
event_ends a b (event.Kill x) = x.0 == a
event_ends a b other = false

-- whether a line ends it: an event, or an answer of the brick that was lost
abbrev pub ends_session : ℕ → ℕ → Line → Bool
ends_session a b (Ask x y request NotConnected took) = (x.0 == a) && (y.0 == b) && took
ends_session a b (line_of.Event e) = event_ends a b e
ends_session a b line = false

-- whether the session of an actor with a brick is live
abbrev pub is_joined : Plan → ℕ → ℕ → List Line → Bool
is_joined p a b [] = false
is_joined p a b (line ∷ older) = (is_joined p a b older || opens_with p a b line older) && not (ends_session a b line)
