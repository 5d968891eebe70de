-- Which lines were made again of an image's steps, and why one of them couldn't be.
use Rattle.std.specs.Prelude.{◌≡◌, ℕ, Bool, true, false, List, [], ◌∷◌, ◌++◌, None, Some, IsSome, length, map, reverse, slice_get, take}
use Rattle.afr_image.specs.declared.step.Step.{Step}
use Rattle.afr_image.specs.Steps.{step_of}
use Rattle.afr_lines.specs.Log.{before}
use Rattle.afr_lines.specs.Work.{is_event, is_of}
use Rattle.afr_lines.specs.declared.line.Line.{Line}
use Rattle.afr_model.specs.Actors.{IsActor, is_done}
use Rattle.afr_plan.specs.declared.plan.Plan.{Plan}
use Rattle.afr_volume.specs.Turning.{due_at}
use Rattle.afr_volume.specs.declared.turned.Turned.{Turned}
use Rattle.afr_volume.specs.declared.turned.Turned.TheVariants.{Ended}

-- a turn found that its actor had nothing left to do
abbrev pub is_ended : Turned → Bool
is_ended Ended = true
is_ended turned = false

-- the step is an event's
abbrev pub IsEventStep : Step → Type 0
IsEventStep step = step.who ≡ 0

-- a line is an event, or a line of the step's actor, as the step wants
pub record IsBy (step : Step) (line : Line) : Type 0 where
  pub event : IsEventStep step → is_event line ≡ true
  pub own : (IsEventStep step → ⊥) → is_of step.who line ≡ true

-- the line was made of the step: an event that was due, or, while none was, a line of an actor that was there and wasn't done
pub record IsMade (p : Plan) (step : Step) (line : Line) (older : List Line) : Type 0 where
  pub event : IsEventStep step → IsSome (due_at p older)
  pub turn : (IsEventStep step → ⊥) → due_at p older ≡ None
  pub actor : (IsEventStep step → ⊥) → IsActor p step.who
  pub busy : (IsEventStep step → ⊥) → is_done p step.who older ≡ false
  pub by : IsBy step line
  pub same : step_of line ≡ step

-- one line more was made of the step
pub record MakesStep (p : Plan) (step : Step) (old new : List Line) : Type 0 where
  pub line : Line
  pub added : new ≡ line ∷ old
  pub made : IsMade p step line old

-- the lines were made of these steps, one of each
pub data Made (p : Plan) : List Step → List Line → Type 0 where
  Start : Made p [] []
  Then : (steps : List Step) (older : List Line) (step : Step) (line : Line) → Made p steps older → IsMade p step line older → Made p (steps ++ step ∷ []) (line ∷ older)

-- why the step isn't made after some lines: it is an event's and none is due; it is an actor's and an event is due, or the
-- actor isn't there, or it is done; or the line that came has another step
pub data Fails (p : Plan) (step : Step) (older : List Line) : List Line → Type 0 where
  NoneIsDue : IsEventStep step → due_at p older ≡ None → Fails p step older older
  OneIsDue : (IsEventStep step → ⊥) → IsSome (due_at p older) → Fails p step older older
  NoActor : (IsEventStep step → ⊥) → (IsActor p step.who → ⊥) → Fails p step older older
  NoWork : (IsEventStep step → ⊥) → is_done p step.who older ≡ true → Fails p step older older
  Otherwise : (line : Line) → IsBy step line → (step_of line ≡ step → ⊥) → Fails p step older (line ∷ older)

-- the first lines of a log, as many as there are steps, were made of them
pub record Retraces (p : Plan) (steps : List Step) (log : List Line) : Type 0 where
  pub first : List Line
  pub later : List Line
  pub whole : log ≡ later ++ first
  pub made : Made p steps first

-- the first lines of a log, as many as there are steps, have them
abbrev pub HasSteps : List Step → List Line → Type 0
HasSteps steps log = map step_of (reverse (before (length steps) log)) ≡ steps

-- so many lines were made of the first steps, and then one wasn't
pub record DiffersAt (p : Plan) (steps : List Step) (i : ℕ) (log : List Line) : Type 0 where
  pub step : Step
  pub there : slice_get steps i ≡ Some step
  pub older : List Line
  pub made : Made p (take i steps) older
  pub fails : Fails p step older log
