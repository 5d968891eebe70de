-- How far the works of all actors have come: within their costs, and with their locks asked in rising order.
use Rattle.std.specs.Prelude.{◌≡◌, ℕ, ◌+◌, ◌≤◌, List, Some, slice_get}
use Rattle.afr_law_bound.specs.Ends.Cost.{AreWithinCost, costs_of, spent}
use Rattle.afr_lines.specs.Work.{ended, work}
use Rattle.afr_lines.specs.declared.line.Line.{Line}
use Rattle.afr_plan.specs.declared.plan.Plan.{Plan}
use Rattle.afr_law_cost.specs.Healer.Paced.{IsPacedRound}
use Rattle.afr_healer.specs.declared.healer.Healer.{Healer}
use Rattle.afr_law_bound.specs.Standstill.Order.{AreRising}
use Rattle.afr_law_order.specs.Work.Queue.{IsQueued}
use Rattle.afr_law_pace.specs.Work.Left.{work_left}
use Rattle.afr_client.specs.declared.work.WorkMachine.{WorkMachine}
use Rattle.afr_volume.specs.declared.actor.Actor.{Actor}

-- what the lines of an actor's present work took, and so many more, are within its cost
abbrev pub HasLeft : Plan → ℕ → List Line → ℕ → Type 0
HasLeft p a log left = (cost : ℕ) → slice_get (costs_of p a) (ended a log) ≡ Some cost → spent (work a log) + left ≤ cost

-- a client's work has what its cost leaves for all lines that it may still write, and asked for its locks in order
pub record IsPaced (p : Plan) (a : ℕ) (log : List Line) (w : WorkMachine) : Type 0 where
  pub within : HasLeft p a log (work_left w)
  pub queued : IsQueued w

-- so has each client and each healer, and each line so far
pub record ArePaced (p : Plan) (log : List Line) (actors : List Actor) (healers : List Healer) : Type 0 where
  pub clients : (i : ℕ) (x : Actor) → slice_get actors i ≡ Some x → IsPaced p (i + 1) log x.work
  pub rounds : (i : ℕ) (x : Healer) → slice_get healers i ≡ Some x → IsPacedRound p (17 + i) log x.round
  pub rising : AreRising p log
  pub within : AreWithinCost p log
