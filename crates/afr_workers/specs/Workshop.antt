-- What lies under the lock of a crawl by threads: what the crawler has put, what each worker has taken, and which of that it was given.
use Rattle.std.specs.Prelude.{◌≡◌, ◌⊎◌, ℕ, ◌-◌, ◌<◌, ◌≤◌, Bool, true, List, [], ◌∷◌, ◌++◌, None, Some, length, map, replicate, slice_get, slice_set}
use Rattle.afr_base.specs.declared.ids.ActorId.{ActorId}
use Rattle.afr_lines.specs.Work.{is_killed}
use Rattle.afr_model.specs.Crawl.{lists_by}
use Rattle.afr_tasks.specs.Exchange.{Exchange, with_taken}
use Rattle.afr_tasks.specs.declared.rule.Task.{Task}
use Rattle.afr_tasks.specs.declared.rule.Task.TheVariants.{Heal, Stop}
use Rattle.afr_tasks.specs.declared.tasks.Worker.{Worker}
use Rattle.afr_tasks.specs.declared.tasks.Worker.TheVariants.{Second, Third}
use Rattle.afr_volume.specs.State.{State}
use Rattle.afr_volume.specs.Tasks.{is_done_in}
use Rattle.afr_volume.specs.Turning.{Turns}
use Rattle.afr_volume.specs.declared.turned.Turned.{Turned}
use Rattle.afr_workers.specs.Crew.{IsPlaced, tasks_given}
use Rattle.afr_workers.specs.Cursor.{IsLast, Item, items_before}
use Rattle.afr_workers.specs.declared.workshop.Workshop.{Workshop}

-- an item as a task
abbrev pub heal_of : Item → Task
heal_of item = Heal item.0 item.1

-- the items among tasks: stops have none
abbrev pub items_among : List Task → List Item
items_among [] = []
items_among (Heal gfid what ∷ tasks) = (gfid, what) ∷ items_among tasks
items_among (Stop ∷ tasks) = items_among tasks

-- what is put: these items, and then so many stops
abbrev pub tasks_put : List Item → ℕ → List Task
tasks_put items stops = map heal_of items ++ replicate stops Stop

-- the crawler is given no list any more
abbrev pub IsOver : State → Type 0
IsOver s = (is_done_in 17 s ≡ true) ⊎ (length s.log ≡ s.plan.turns)

-- what was put are the first items of the lists given, in their order, and after all of them at most two stops
pub record HasPut (s : State) (round at stops : ℕ) (tasks : List Task) : Type 0 where
  pub put : tasks ≡ tasks_put (items_before round at (lists_by s.plan s.log)) stops
  pub few : stops ≤ 2
  pub whole : 0 < stops → IsLast (lists_by s.plan s.log) round at × IsOver s

-- items in the order in which they were taken, of which each was given or passed over; of both lists the latest comes first
pub data IsMerge : List Item → List Item → List Item → Type 0 where
  Neither : IsMerge [] [] []
  Given : (taken given passed more : List Item) (item : Item) → IsMerge taken given passed → more ≡ taken ++ item ∷ [] → IsMerge more (item ∷ given) passed
  Passed : (taken given passed more : List Item) (item : Item) → IsMerge taken given passed → more ≡ taken ++ item ∷ [] → IsMerge more given (item ∷ passed)

-- why a worker passes over an item: it was killed, or the log is full, or memory was wanting, which is noted
abbrev pub MayPass : ℕ → State → Bool → Type 0
MayPass a s no_memory = (is_killed a s.log ≡ true) ⊎ ((length s.log ≡ s.plan.turns) ⊎ (no_memory ≡ true))

-- what a worker took, stops aside, are in order the tasks that it was given and the items that it passed over
pub record HasTaken (a : ℕ) (s : State) (no_memory : Bool) (tasks : List Task) : Type 0 where
  pub passed : List Item
  pub merged : IsMerge (items_among tasks) (tasks_given a s) passed
  pub cause : (passed ≡ []) ⊎ MayPass a s no_memory

-- the three facts
pub record IsShop (x : Workshop) : Type 0 where
  pub placed : IsPlaced x.crew x.volume
  pub puts : HasPut x.volume x.crew.round x.crew.at x.stops x.tasks.put
  pub second : HasTaken 18 x.volume x.no_memory x.tasks.second
  pub third : HasTaken 19 x.volume x.no_memory x.tasks.third

-- they hold after a step too, and the plan stays
pub record IsKept (old new : Workshop) : Type 0 where
  pub shop : IsShop new
  pub plan : new.volume.plan ≡ old.volume.plan

-- before the first turn of a thread no worker was given anything
pub record IsBegun (s : State) : Type 0 where
  pub placed : IsPlaced (record { round = 0; at = 0; second_killed = is_killed 18 s.log; third_killed = is_killed 19 s.log }) s
  pub second : tasks_given 18 s ≡ []
  pub third : tasks_given 19 s ≡ []

-- an actor of a plan with so many clients and three healers
abbrev pub IsOneOf : ℕ → ℕ → Type 0
IsOneOf clients a = ((1 ≤ a) × (a ≤ clients)) ⊎ ((17 ≤ a) × (a ≤ 19))

abbrev pub AreActors : ℕ → List ActorId → Type 0
AreActors clients actors = (i : ℕ) (a : ActorId) → slice_get actors i ≡ Some a → IsOneOf clients a.0

-- ---- steps
-- an actor's turn was taken, or nothing has changed
abbrev pub HasTurned : ActorId → State → State → Type 0
HasTurned a old new = (new ≡ old) ⊎ ((turned : Turned) × Turns a old turned new × (length new.log ≤ new.plan.turns))

-- the actor of a worker
abbrev pub number_of : Worker → ℕ
number_of Second = 18
number_of Third = 19

abbrev pub with_task : ℕ → Item → State → State
with_task a item s = record s { tasks = slice_set s.tasks (a - 18) (Some item) }

-- a worker that was at no task was given an item, or it passed it over
abbrev pub GivesItem : ℕ → Item → State → State → Bool → Type 0
GivesItem a item old new no_memory = ((new ≡ with_task a item old) × (slice_get old.tasks (a - 18) ≡ Some None)) ⊎ ((new ≡ old) × MayPass a new no_memory)

-- a worker took nothing, or a stop, or an item, which it was given or passed over
pub data TakesTask (worker : Worker) (old new : State) (no_memory : Bool) (before : Exchange) : Exchange → Type 0 where
  TookNothing : new ≡ old → TakesTask worker old new no_memory before before
  TookStop : new ≡ old → TakesTask worker old new no_memory before (with_taken worker Stop before)
  TookItem : (item : Item) → GivesItem (number_of worker) item old new no_memory → TakesTask worker old new no_memory before (with_taken worker (heal_of item) before)
