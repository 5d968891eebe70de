-- What a turn and an event do to a volume.
use Rattle.std.specs.Prelude.{◌≡◌, ◌⊎◌, ◌||◌, ℕ, ◌+◌, ◌≤◌, ◌-◌, Bool, true, false, List, ◌∷◌, Option, Some, None, length, slice_get, slice_set, nat_le, nat_lt, not, if◌then◌else◌}
use Rattle.afr_base.specs.declared.ids.ActorId.{ActorId}
use Rattle.afr_base.specs.declared.ids.BrickId.{BrickId}
use Rattle.afr_base.specs.declared.ids.Gfid.{Gfid}
use Rattle.afr_base.specs.declared.ids.What.{What}
use Rattle.afr_lines.specs.Work.{events_made, is_end, is_of, kills, work}
use Rattle.afr_lines.specs.declared.line.Event.{Event}
use Rattle.afr_lines.specs.declared.line.Event.TheVariants.{Kill}
use Rattle.afr_lines.specs.declared.line.Line.{Line}
use Rattle.afr_lines.specs.declared.line.Line.TheVariants as line_of
use Rattle.afr_log.specs.Log.{waits_for}
use Rattle.afr_plan.specs.declared.plan.Plan.{Plan}
use Rattle.afr_plan.specs.declared.schedule.PlannedEvent.{PlannedEvent}
use Rattle.afr_server.specs.Serving.{Serving}
use Rattle.afr_plan.specs.declared.command.Command.{Command}
use Rattle.afr_volume.specs.State.{State}
use Rattle.afr_model.specs.Actors.{rounds_of, script_of}
use Rattle.afr_model.specs.Crawl.{item_by}
use Rattle.afr_volume.specs.Tasks.{is_done_in}
use Rattle.afr_base.specs.declared.ids.Shape.{Shape}
use Rattle.afr_heal_round.specs.Rounding.{task_from}
use Rattle.afr_healer.specs.Acting as rounds
use Rattle.afr_healer.specs.declared.healer.Healer.{Healer}
use Rattle.afr_client.specs.Begin.{work_from}
use Rattle.afr_client.specs.Work.{IsBusy, IsWork}
use Rattle.afr_client.specs.declared.work.WorkMachine.TheVariants.{Idle}
use Rattle.afr_volume.specs.Acting.{Hearing, Stepped}
use Rattle.afr_volume.specs.declared.actor.Actor.{Actor}
use Rattle.afr_volume.specs.declared.turned.Turned.{Turned}
use Rattle.afr_volume.specs.declared.turned.Turned.TheVariants.{Moved, Waits, Ended, Full}

-- a line of a worker that was at a task: it goes on with it, or has ended it with that item
pub record IsTaskLine (a : ℕ) (item : Gfid × What) (line : Line) (older : List Line) (tasks : List (Option (Gfid × What))) : Type 0 where
  pub present : slice_get tasks (a - 18) ≡ Some (if is_end line then None else Some item)
  pub tried : is_end line ≡ true → item_by (work a older) ≡ Some item

-- one line of the actor, which wasn't done, was added; the running heals and reads of others have the sources and the copies that they had, and other workers their tasks; the task of a worker is over with its end, and then was tried
pub record AddsLine (a : ActorId) (old : State) (waits : Option ActorId) (new : State) : Type 0 where
  pub line : Line
  pub own : is_of a.0 line ≡ true
  pub waiting : waits_for line ≡ waits
  pub plan : new.plan ≡ old.plan
  pub added : new.log ≡ line ∷ old.log
  pub others : (i : ℕ) → (17 + i ≡ a.0 → ⊥) → slice_get new.sources i ≡ slice_get old.sources i
  pub others_picked : (i : ℕ) → (1 + i ≡ a.0 → ⊥) → slice_get new.picked i ≡ slice_get old.picked i
  pub crawl : new.crawl ≡ old.crawl
  pub left : is_done_in a.0 old ≡ false
  pub others_tasks : (i : ℕ) → (18 + i ≡ a.0 → ⊥) → slice_get new.tasks i ≡ slice_get old.tasks i
  pub own_task : (item : Gfid × What) → 18 ≤ a.0 → slice_get old.tasks (a.0 - 18) ≡ Some (Some item) → IsTaskLine a.0 item line old.log new.tasks

-- what each answer of a turn says
abbrev pub Turns : ActorId → State → Turned → State → Type 0
Turns a old Moved new = AddsLine a old None new
Turns a old (Waits owner) new = AddsLine a old (Some owner) new
Turns a old Ended new = (is_done_in a.0 old ≡ true) × (new ≡ old)
Turns a old Full new = (length old.log ≡ old.plan.turns) × (is_done_in a.0 old ≡ false) × (new ≡ old)

-- an event is due where its position has come
abbrev pub if_due : ℕ → Option PlannedEvent → Option Event
if_due len None = None
if_due len (Some planned) = if nat_le planned.at len then Some planned.event else None

-- the next event of the plan, where it is due and the log has room
abbrev pub due_at : Plan → List Line → Option Event
due_at p log = if nat_lt (length log) p.turns then if_due (length log) (slice_get p.events (events_made log)) else None

abbrev pub due_of : State → Option Event
due_of s = due_at s.plan s.log

-- the event that was due has come
pub record Comes (old new : State) : Type 0 where
  pub event : Event
  pub is_due : due_of old ≡ Some event
  pub added : new ≡ record old { log = line_of.Event event ∷ old.log }

-- an actor has the work of its present command: it had it, or the command begins
abbrev pub Readies : Plan → ℕ → Actor → Actor → Type 0
Readies p a x z =
    (z ≡ x)
    ⊎ ((x.work ≡ Idle) × (command : Command) × (slice_get (script_of p a) x.ended ≡ Some command) × (z ≡ record x { work = work_from p.shape command }))

-- the same of one actor among all
pub record ReadiedAt (p : Plan) (a : ℕ) (old new : List Actor) : Type 0 where
  pub before : Actor
  pub after : Actor
  pub was : slice_get old (a - 1) ≡ Some before
  pub readies : Readies p a before after
  pub busy : IsBusy after.work
  pub sound : IsWork after.work
  pub set_is : new ≡ slice_set old (a - 1) after

-- one line of one actor among all, whose command has begun
pub record StepsAt (Hears : Hearing) (a : ActorId) (at : ℕ) (old new : List Actor) (bricks after_bricks : List Serving) (written : Line) : Type 0 where
  pub before : Actor
  pub after : Actor
  pub was : slice_get old (a.0 - 1) ≡ Some before
  pub steps : Stepped Hears a at before after bricks after_bricks written
  pub set_is : new ≡ slice_set old (a.0 - 1) after

-- a healer among all has its present round or task, and the memory of its coming move; a round that begins is the plan's, and heals what it lists, but where the healers crawl
pub record ReadiedHealerAt (crawl : Bool) (p : Plan) (a : ℕ) (old new : List Healer) : Type 0 where
  pub before : Healer
  pub after : Healer
  pub was : slice_get old (a - 17) ≡ Some before
  pub brick : BrickId
  pub present : before.round ≡ None → slice_get (rounds_of p a) before.ended ≡ Some brick
  pub readies : rounds.Readies p.shape (not crawl) brick before after
  pub set_is : new ≡ slice_set old (a - 17) after

-- the first healer has no round
pub record RestsFirst (old new : List Healer) : Type 0 where
  pub before : Healer
  pub was : slice_get old 0 ≡ Some before
  pub set_is : new ≡ slice_set old 0 (record before { round = None })

-- a healer among all has the task of one item
pub record GivesTask (shape : Shape) (a : ℕ) (item : Gfid × What) (old new : List Healer) : Type 0 where
  pub before : Healer
  pub was : slice_get old (a - 17) ≡ Some before
  pub set_is : new ≡ slice_set old (a - 17) (record before { round = Some (task_from shape item) })

-- one line of one healer among all, whose round has begun
pub record StepsHealerAt (Hears : rounds.Hearing) (a : ActorId) (at : ℕ) (old new : List Healer) (bricks after_bricks : List Serving) (written : Line) : Type 0 where
  pub before : Healer
  pub after : Healer
  pub was : slice_get old (a.0 - 17) ≡ Some before
  pub steps : rounds.Stepped Hears a at before after bricks after_bricks written
  pub set_is : new ≡ slice_set old (a.0 - 17) after

-- an event that kills an actor names one that is there: a client up to number 16, and a healer above
abbrev pub HasVictim : Event → List Actor → Type 0
HasVictim (Kill a) actors = a.0 ≤ 16 → (1 ≤ a.0) × (a.0 ≤ length actors)
HasVictim event actors = Unit {0}

abbrev pub HasHealer : Event → List Healer → Type 0
HasHealer (Kill a) healers = 17 ≤ a.0 → a.0 ≤ 16 + length healers
HasHealer event healers = Unit {0}

-- the clients after an event: the one that it kills is dead from then on
pub record KillsIn (event : Event) (old new : List Actor) : Type 0 where
  pub count : length new ≡ length old
  pub each : (i : ℕ) (x y : Actor) → slice_get old i ≡ Some x → slice_get new i ≡ Some y → y ≡ record x { killed = kills (i + 1) (line_of.Event event) || x.killed }

-- and the healers
pub record KillsHealersIn (event : Event) (old new : List Healer) : Type 0 where
  pub count : length new ≡ length old
  pub each : (i : ℕ) (x y : Healer) → slice_get old i ≡ Some x → slice_get new i ≡ Some y → y ≡ record x { killed = kills (17 + i) (line_of.Event event) || x.killed }
