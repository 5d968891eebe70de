-- The moment of a line, by tests and by the actor's present task.
use Rattle.std.specs.Prelude.{ℕ, ◌+◌, ◌≤◌, ◌&&◌, ◌||◌, nat_le, Bool, Option, Some, None, length}
use Rattle.afr_base.specs.declared.ids.BrickId.{BrickId}
use Rattle.afr_lines.specs.Work.{Work}
use Rattle.afr_lines.specs.declared.line.Line.{Line}
use Rattle.afr_plan.specs.declared.command.Command.{Command}
use Rattle.afr_plan.specs.declared.plan.Plan.{Plan}
use Rattle.afr_trace_follow.specs.Planned.{GoesWith}
use Rattle.afr_trace_follow.specs.Turns.{KeepsToTurns}

-- an actor of the plan
abbrev pub is_actor : Plan → ℕ → Bool
is_actor p a = (nat_le 1 a && nat_le a (length p.clients)) || (nat_le 17 a && nat_le a (16 + length p.healers))

-- a plan has at most sixteen clients and three healers
pub record HasFewActors (p : Plan) : Type 0 where
  pub clients : length p.clients ≤ 16
  pub healers : length p.healers ≤ 3

-- a line keeps to the command, where there is one
abbrev pub KeepsToSome : Plan → Option Command → Line → ℕ → Work → Type 0
KeepsToSome p None line at w = ⊥
KeepsToSome p (Some c) line at w = GoesWith p c line at w

-- a line keeps to the round over the index of a brick, where there is one
abbrev pub GoesSome : Plan → Option BrickId → Line → Work → Type 0
GoesSome p None line w = ⊥
GoesSome p (Some b) line w = KeepsToTurns p b line w
