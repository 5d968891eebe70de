-- How far a crawl has come, beside its volume.
use Rattle.std.specs.Prelude.{◌≡◌, ◌⊎◌, ◌||◌, ℕ, ◌+◌, ◌-◌, ◌<◌, ◌≤◌, true, false, List, Option, None, Some, length, slice_get}
use Rattle.afr_lines.specs.Work.{is_killed, kills}
use Rattle.afr_lines.specs.declared.line.Event.{Event}
use Rattle.afr_lines.specs.declared.line.Line.TheVariants as line_of
use Rattle.afr_model.specs.Actors.{IsActor}
use Rattle.afr_model.specs.Complete.{IsComplete}
use Rattle.afr_model.specs.Crawl.{CanCrawl, IsTried, IsWorker, lists_by, tasks_by, with_item}
use Rattle.afr_model.specs.Following.{NoneDue}
use Rattle.afr_tasks.specs.Balance.{weigh}
use Rattle.afr_volume.specs.State.{State}
use Rattle.afr_volume.specs.Tasks.{is_done_in, task_by}
use Rattle.afr_workers.specs.Cursor.{IsLast, IsPlace, Item, items_before}
use Rattle.afr_workers.specs.declared.crew.Crew.{Crew}

-- before the first line
abbrev pub first_crew : Crew
first_crew = record { round = 0; at = 0; second_killed = false; third_killed = false }

-- after an event
abbrev pub noted : Event → Crew → Crew
noted event crew = record crew { second_killed = kills 18 (line_of.Event event) || crew.second_killed; third_killed = kills 19 (line_of.Event event) || crew.third_killed }

-- the tasks that a worker was given: those that it has ended, and the one at hand
abbrev pub tasks_given : ℕ → State → List Item
tasks_given a s = with_item (task_by a s) (tasks_by a s.log)

-- a place that a crawl has come to, and who of its workers was killed
pub record IsPlaced (crew : Crew) (s : State) : Type 0 where
  pub crawls : s.crawl ≡ true
  pub can : CanCrawl s.plan
  pub there : (a : ℕ) → IsWorker a → (task : Option Item) × (slice_get s.tasks (a - 18) ≡ Some task)
  pub place : IsPlace (lists_by s.plan s.log) crew.round crew.at
  pub second : crew.second_killed ≡ is_killed 18 s.log
  pub third : crew.third_killed ≡ is_killed 19 s.log

-- where both workers live, what they were given are the items before a place, however items are weighed
abbrev pub AreGiven : ℕ → ℕ → State → Type 0
AreGiven round at s =
    is_killed 18 s.log ≡ false → is_killed 19 s.log ≡ false
    → (worth : Item → ℕ) → weigh worth (tasks_given 18 s) + weigh worth (tasks_given 19 s) ≡ weigh worth (items_before round at (lists_by s.plan s.log))

-- where the next item is the first one that no worker was given
pub record IsCrew (crew : Crew) (s : State) : Type 0 where
  pub placed : IsPlaced crew s
  pub given : AreGiven crew.round crew.at s

-- the plan stays, and the log keeps its lines
pub record Leads (old new : State) : Type 0 where
  pub plan : new.plan ≡ old.plan
  pub grows : length old.log ≤ length new.log

-- nothing has changed
pub record IsStill (old : State) (crew : Crew) (new : State) (after : Crew) : Type 0 where
  pub same : new ≡ old
  pub stays : after ≡ crew

-- a worker takes no item more: it was killed, or all were given
abbrev pub TakesNone : ℕ → State → Crew → Type 0
TakesNone a s crew = (is_killed a s.log ≡ true) ⊎ IsLast (lists_by s.plan s.log) crew.round crew.at

-- every actor is done and no event is due, and where the second healer lives, all items were given
pub record IsAtRest (s : State) (crew : Crew) : Type 0 where
  pub events : length s.log < s.plan.turns → NoneDue s.plan s.log
  pub done : (a : ℕ) → IsActor s.plan a → is_done_in a s ≡ true
  pub second : TakesNone 18 s crew

-- the log is full, or nothing is left to do: no worker that lives is at a task
pub record IsCrawled (s : State) : Type 0 where
  pub complete : IsComplete s.plan s.log
  pub idle : length s.log < s.plan.turns → (a : ℕ) → IsWorker a → is_killed a s.log ≡ false → slice_get s.tasks (a - 18) ≡ Some None

-- each item of the lists given was a task, as often as it stands there
abbrev pub IsTriedIn : State → Type 0
IsTriedIn s = length s.log < s.plan.turns → is_killed 18 s.log ≡ false → is_killed 19 s.log ≡ false → IsTried s.plan s.log
