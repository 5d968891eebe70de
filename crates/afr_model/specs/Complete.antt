-- Nothing is left to do, or the log is full.
use Rattle.std.specs.Prelude.{◌≡◌, ◌⊎◌, ℕ, false, true, List, [], length}
use Rattle.afr_lines.specs.Work.{work, is_killed}
use Rattle.afr_lines.specs.declared.line.Line.{Line}
use Rattle.afr_plan.specs.declared.plan.Plan.{Plan}
use Rattle.afr_model.specs.Actors.{IsActor, is_done}
use Rattle.afr_model.specs.Following.{NoneDue}

-- no event is due, and every living actor has ended each of its works
pub record IsFinished (p : Plan) (log : List Line) : Type 0 where
  pub events : NoneDue p log
  pub done : (a : ℕ) → IsActor p a → is_done p a log ≡ true
  pub ended : (a : ℕ) → IsActor p a → is_killed a log ≡ false → work a log ≡ []

-- the log is full, or nothing is left to do
abbrev pub IsComplete : Plan → List Line → Type 0
IsComplete p log = (length log ≡ p.turns) ⊎ IsFinished p log
