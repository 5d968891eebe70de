-- A healer's present round is within its cost: what it has spent, and what it has left.
use Rattle.std.specs.Prelude.{◌≡◌, ℕ, ◌+◌, ◌≤◌, List, Option, None, Some, slice_get}
use Rattle.afr_base.specs.declared.ids.ActorId.{ActorId}
use Rattle.afr_base.specs.declared.ids.BrickId.{BrickId}
use Rattle.afr_law_bound.specs.Ends.Cost.{costs_of, objects_of, spent}
use Rattle.afr_heal_round.specs.Rounding.{IsAnswered, Rounding}
use Rattle.afr_lines.specs.Work.{ended, work}
use Rattle.afr_lines.specs.declared.line.Line.{Line}
use Rattle.afr_lines.specs.declared.request.Request.TheVariants.{Index}
use Rattle.afr_plan.specs.declared.plan.Plan.{Plan}
use Rattle.afr_law_cost.specs.Round.Left.{AreRooted, Lists, round_left}
use Rattle.afr_healer.specs.Acting.{IsAsked}
use Rattle.afr_healer.specs.declared.healer.Healer.{Healer}
use Rattle.afr_server.specs.Serving.{Serving}

-- the lines that the present round has left; between two rounds none
abbrev pub present_left : ℕ → Option Rounding → ℕ
present_left objects None = 0
present_left objects (Some m) = round_left objects m

-- the heal that the present round is at holds Work locks of an area alone
abbrev pub IsPresentRooted : Option Rounding → Type 0
IsPresentRooted None = Unit {0}
IsPresentRooted (Some m) = AreRooted m.stage

-- what the log has of the present round, and what the round has left, are together within its cost
pub record IsPacedRound (p : Plan) (a : ℕ) (log : List Line) (round : Option Rounding) : Type 0 where
  pub within : (cost : ℕ) → slice_get (costs_of p a) (ended a log) ≡ Some cost → spent (work a log) + present_left (objects_of p) round ≤ cost
  pub rooted : IsPresentRooted round

-- the index that a brick gave for this line lists at most so many objects
abbrev pub ListsAtMost : ℕ → ActorId → ℕ → Healer → Healer → List Serving → List Serving → Line → Type 0
ListsAtMost objects a at x y old new line = (m : Rounding) (b : BrickId) (asked : IsAsked IsAnswered a at b Index x y m old new line) → x.round ≡ Some m → Lists objects asked.given.answer
