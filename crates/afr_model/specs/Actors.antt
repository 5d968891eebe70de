-- The actors of a plan and what is left for them to do.
use Rattle.std.specs.Prelude.{ℕ, ◌+◌, ◌-◌, ◌||◌, ◌≤◌, nat_le, nat_lt, Bool, List, [], length, slice_index_or, if◌then◌else◌}
use Rattle.afr_base.specs.declared.ids.BrickId.{BrickId}
use Rattle.afr_lines.specs.declared.line.Line.{Line}
use Rattle.afr_lines.specs.Work.{ended, is_killed}
use Rattle.afr_plan.specs.declared.command.Command.{Command}
use Rattle.afr_plan.specs.declared.plan.Plan.{Plan}

-- clients are numbered from 1, healers from 17
pub data IsActor (p : Plan) (a : ℕ) : Type 0 where
  Client : 1 ≤ a → a ≤ length p.clients → IsActor p a
  Healer : 17 ≤ a → a ≤ 16 + length p.healers → IsActor p a

-- the commands of a client
abbrev pub script_of : Plan → ℕ → List Command
script_of p a = slice_index_or p.clients (a - 1) []

-- the bricks of a healer's rounds
abbrev pub rounds_of : Plan → ℕ → List BrickId
rounds_of p a = slice_index_or p.healers (a - 17) []

-- how many works the plan has for an actor
abbrev pub works_of : Plan → ℕ → ℕ
works_of p a = if nat_lt 16 a then length (rounds_of p a) else length (script_of p a)

-- an actor is done where it was killed or has no work left
abbrev pub is_done : Plan → ℕ → List Line → Bool
is_done p a log = is_killed a log || nat_le (works_of p a) (ended a log)
