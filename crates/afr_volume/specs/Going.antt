-- How turns and events take a log to a longer one.
use Rattle.std.specs.Prelude.{◌≡◌, ℕ, ◌+◌, ◌≤◌, ◌<◌, Bool, true, false, List, ◌++◌, length}
use Rattle.afr_base.specs.declared.ids.ActorId.{ActorId}
use Rattle.afr_lines.specs.declared.line.Line.{Line}
use Rattle.afr_plan.specs.declared.plan.Plan.{Plan}
use Rattle.afr_volume.specs.State.{State}
use Rattle.afr_volume.specs.Turning.{Comes, Turns}
use Rattle.afr_model.specs.Actors.{IsActor, is_done}
use Rattle.afr_model.specs.Following.{NoneDue}
use Rattle.afr_model.specs.Ordered.{Writes, actors_of, passes}
use Rattle.afr_volume.specs.declared.turned.Turned.{Turned}
use Rattle.afr_volume.specs.declared.turned.Turned.TheVariants.{Full}

-- the plan stays and the way its healers go, the log grows or all is as it was, and who is done stays done
pub record Goes (old new : State) : Type 0 where
  pub plan : new.plan ≡ old.plan
  pub crawl : new.crawl ≡ old.crawl
  pub grows : length old.log ≤ length new.log
  pub same : length new.log ≤ length old.log → new ≡ old
  pub stays : (a : ℕ) → is_done old.plan a old.log ≡ true → is_done new.plan a new.log ≡ true

-- events that were due took the old volume to the new one
pub data IsHappening (old : State) : State → Type 0 where
  Still : IsHappening old old
  Later : (mid new : State) → IsHappening old mid → Comes mid new → IsHappening old new

-- events that were due, and turns of clients, took the old volume to the new one
pub data ClientsRun (old : State) : State → Type 0 where
  AtFirst : ClientsRun old old
  AfterEvent : (mid new : State) → ClientsRun old mid → Comes mid new → ClientsRun old new
  AfterTurn : (mid new : State) (a : ActorId) (turned : Turned) → ClientsRun old mid → a.0 ≤ 16 → Turns a mid turned new → ClientsRun old new

-- these turns, and events between them, took the old log to the new one
pub record Takes (p : Plan) (turns : List ℕ) (old new : List Line) : Type 0 where
  pub written : (before : List ℕ) → Writes p before old → Writes p (before ++ turns) new

-- the first of these turns took the old log to the new one
pub record TakesFront (p : Plan) (turns : List ℕ) (old new : List Line) : Type 0 where
  pub front : List ℕ
  pub later : List ℕ
  pub whole : front ++ later ≡ turns
  pub taken : Takes p front old new

-- a number of passes over the actors, of which the last may have been cut off, took the old log to the new one
abbrev pub TakesPasses : Plan → List Line → List Line → Type 0
TakesPasses p old new = (rounds : ℕ) × TakesFront p (passes rounds (actors_of p)) old new

-- all of these turns were taken, or the log is full
abbrev pub Ends : List ℕ → State → Bool → State → Type 0
Ends turns old true new = Takes old.plan turns old.log new.log
Ends turns old false new = length new.log ≡ new.plan.turns

-- so many clients from the first on are done
pub record ClientsAreDone (count : ℕ) (s : State) : Type 0 where
  pub within : count ≤ length s.plan.clients
  pub done : (k : ℕ) → k < count → is_done s.plan (1 + k) s.log ≡ true

-- every actor is done, and no event is due
pub record IsIdle (s : State) : Type 0 where
  pub events : length s.log < s.plan.turns → NoneDue s.plan s.log
  pub done : (a : ℕ) → IsActor s.plan a → is_done s.plan a s.log ≡ true

-- whether the log had room for a turn
abbrev pub goes_on_after : Turned → Bool
goes_on_after Full = false
goes_on_after turned = true
