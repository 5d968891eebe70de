-- The stated order: first the orders of the plan, then passes over the actors.
use Rattle.std.specs.Prelude.{◌≡◌, ℕ, suc, zero, true, List, [], ◌∷◌, ◌++◌, length, replicate}
use Rattle.std.specs.List.{range_with_len}
use Rattle.afr_lines.specs.Work.{is_of, is_event}
use Rattle.afr_lines.specs.declared.line.Line.{Line}
use Rattle.afr_plan.specs.declared.plan.Plan.{Plan}
use Rattle.afr_plan.specs.declared.schedule.Go.{Go}
use Rattle.afr_model.specs.Actors.{is_done}

-- the actor of each turn that the orders give
abbrev pub ordered_turns : List Go → List ℕ
ordered_turns [] = []
ordered_turns (go ∷ more) = replicate go.count go.actor.0 ++ ordered_turns more

-- all actors in rising order
abbrev pub actors_of : Plan → List ℕ
actors_of p = range_with_len 1 (length p.clients) ++ range_with_len 17 (length p.healers)

-- so many passes over the actors
abbrev pub passes : ℕ → List ℕ → List ℕ
passes zero actors = []
passes (suc r) actors = passes r actors ++ actors

-- the log was written by these turns, one line each; an actor that is done was passed over, and events came between
pub data Writes (p : Plan) : List ℕ → List Line → Type 0 where
  Nothing : Writes p [] []
  Moves : (turns : List ℕ) (log : List Line) (a : ℕ) (line : Line) → Writes p turns log → is_of a line ≡ true → Writes p (turns ++ a ∷ []) (line ∷ log)
  PassesOver : (turns : List ℕ) (log : List Line) (a : ℕ) → Writes p turns log → is_done p a log ≡ true → Writes p (turns ++ a ∷ []) log
  Happens : (turns : List ℕ) (log : List Line) (line : Line) → Writes p turns log → is_event line ≡ true → Writes p turns (line ∷ log)

-- the log was written in the stated order
pub record IsOrdered (p : Plan) (log : List Line) : Type 0 where
  pub turns : List ℕ
  pub later : List ℕ
  pub rounds : ℕ
  pub stated : turns ++ later ≡ ordered_turns p.go ++ passes rounds (actors_of p)
  pub written : Writes p turns log
