-- What a volume keeps: its servers, actors and counts are what the log says, and the log is honest, lawful and the plan's.
use Rattle.std.specs.Prelude.{◌≡◌, ℕ, ◌+◌, ◌<◌, ◌≤◌, Bool, true, false, List, [], ◌∷◌, None, Option, Some, length, slice_get}
use Rattle.afr_base.specs.declared.ids.BrickId.{BrickId}
use Rattle.afr_base.specs.declared.ids.Gfid.{Gfid}
use Rattle.afr_base.specs.declared.ids.Shape.{Shape}
use Rattle.afr_base.specs.declared.ids.What.{What}
use Rattle.afr_discipline.specs.Stands.{HasFive, no_lines}
use Rattle.afr_discipline.specs.declared.register.Register.{Register}
use Rattle.afr_law.specs.Exactly.{IsLawfulExactly}
use Rattle.afr_lines.specs.Places.{Fresh, Within, place_of}
use Rattle.afr_lines.specs.Work.{ended, events_made, is_killed, work}
use Rattle.afr_lines.specs.declared.line.Event.{Event}
use Rattle.afr_lines.specs.declared.line.Event.TheVariants.{Cut, Join, Kill, Start, Stop}
use Rattle.afr_lines.specs.declared.line.Line.{Line}
use Rattle.afr_plan.specs.declared.command.Command.{Command}
use Rattle.afr_plan.specs.declared.plan.Plan.{Plan}
use Rattle.afr_plan.specs.declared.schedule.Go.{Go}
use Rattle.afr_plan.specs.declared.schedule.PlannedEvent.{PlannedEvent}
use Rattle.afr_model.specs.Actors.{IsActor, rounds_of, script_of}
use Rattle.afr_model.specs.Blamed.{AreBlamed}
use Rattle.afr_model.specs.Crawl.{AreOfItem, CanCrawl}
use Rattle.afr_model.specs.Kept.{AreKept}
use Rattle.afr_model.specs.Following.{Follows}
use Rattle.afr_model.specs.Honest.{Honest}
use Rattle.afr_model.specs.Replied.{Replied}
use Rattle.afr_law_picks.specs.Laws.{KeepsPicked, number_in}
use Rattle.afr_law_picks.specs.Readings.{asked_in, asked_of}
use Rattle.afr_heal_round.specs.Rounding.{Rounding}
use Rattle.afr_healer.specs.Keeping.{IsHealer}
use Rattle.afr_healer.specs.declared.healer.Healer.{Healer}
use Rattle.afr_server.specs.Serving.{Serving}
use Rattle.afr_servers.specs.Log.{AreServed}
use Rattle.afr_servers.specs.Visiting.{AreInSession}
use Rattle.afr_servers.specs.declared.epochs.Epochs.{Epochs}
use Rattle.afr_law_next.specs.Turn.{Stood}
use Rattle.afr_client.specs.Begin.{has_machine}
use Rattle.afr_client.specs.Work.{IsWork, register_of}
use Rattle.afr_client.specs.declared.work.WorkMachine.{WorkMachine}
use Rattle.afr_client.specs.declared.work.WorkMachine.TheVariants.{Idle}
use Rattle.afr_law_heard.specs.Works.WorkTelling.{WorkTells}
use Rattle.afr_volume.specs.Acting.{still_picked}
use Rattle.afr_volume.specs.Pacing.{ArePaced}
use Rattle.afr_volume.specs.declared.actor.Actor.{Actor}

-- an event names an actor of the plan and a brick of the volume
abbrev pub IsEventOf : Plan → Event → Type 0
IsEventOf p (Stop b) = b.0 < p.shape.n
IsEventOf p (Start b) = b.0 < p.shape.n
IsEventOf p (Cut a b) = IsActor p a.0
IsEventOf p (Join a b) = IsActor p a.0
IsEventOf p (Kill a) = IsActor p a.0

-- a plan that the volume can run: each command has a machine, and each round a brick
pub record CanRun (p : Plan) : Type 0 where
  pub few : p.shape.n ≤ 5
  pub some : 0 < length p.clients → 0 < p.shape.n
  pub healed : 0 < length p.healers → 0 < p.shape.n
  pub turns : p.turns ≤ 4000000
  pub clients : length p.clients ≤ 16
  pub healers : length p.healers ≤ 3
  pub rounds : (a k : ℕ) (b : BrickId) → slice_get (rounds_of p a) k ≡ Some b → b.0 < p.shape.n
  pub commands : (a k : ℕ) (command : Command) → slice_get (script_of p a) k ≡ Some command → has_machine command ≡ true
  pub events : (i : ℕ) (planned : PlannedEvent) → slice_get p.events i ≡ Some planned → IsEventOf p planned.event
  pub orders : (i : ℕ) (go : Go) → slice_get p.go i ≡ Some go → IsActor p go.actor.0

-- the register of a work stands for its lines; before the first it is that of no line
abbrev pub IsNoted : Bool → Shape → ℕ → List Line → Register → Type 0
IsNoted true shape a log r = (place_of a log ≡ Within) × Stood shape a log r
IsNoted false shape a log r = (place_of a log ≡ Fresh) × (r ≡ no_lines shape)

-- a work carries out the actor's present command: it is sound, its register and its sessions stand for its lines, and they tell where it stands
pub record CarriesOutCommand (p : Plan) (a : ℕ) (log : List Line) (met : Bool) (epochs : Epochs) (servers : List Serving) (w : WorkMachine) : Type 0 where
  pub command : Command
  pub present : slice_get (script_of p a) (ended a log) ≡ Some command
  pub sound : IsWork w
  pub five : HasFive (register_of w)
  pub shape : (register_of w).shape ≡ p.shape
  pub noted : IsNoted met p.shape a log (register_of w)
  pub sessions : AreInSession met a epochs servers
  pub tells : WorkTells p command w (work a log)

-- an actor between two works has written no line of the next
pub record IsBetween (a : ℕ) (log : List Line) (met : Bool) : Type 0 where
  pub unmet : met ≡ false
  pub fresh : place_of a log ≡ Fresh
  pub none : work a log ≡ []

-- what an actor is at stands for the lines of its present work
abbrev pub Carries : Plan → ℕ → List Line → Bool → Epochs → List Serving → WorkMachine → Type 0
Carries p a log met epochs servers Idle = IsBetween a log met
Carries p a log met epochs servers w = CarriesOutCommand p a log met epochs servers w

-- by which copy a client reads: the one that was picked by the looks of its present work, whose lines are its latest ones; before their first there are none
pub record IsReading (p : Plan) (a : ℕ) (log : List Line) (met : Bool) (picked : Option BrickId) (w : WorkMachine) : Type 0 where
  pub keeps : (command : Command) → slice_get (script_of p a) (ended a log) ≡ Some command → KeepsPicked p command w (work a log) (number_in (still_picked met picked))
  pub fresh : met ≡ false → work a log ≡ []
  pub within : met ≡ true → asked_of p a log ≡ asked_in p (slice_get (script_of p a) (ended a log)) (work a log)

-- an actor is what its lines say; before any line nothing was picked for it
pub record IsActing (p : Plan) (log : List Line) (a : ℕ) (servers : List Serving) (x : Actor) : Type 0 where
  pub ended_is : x.ended ≡ ended a log
  pub killed_is : x.killed ≡ is_killed a log
  pub carries : Carries p a log x.visit.met x.visit.epochs servers x.work
  pub unpicked : log ≡ [] → x.picked ≡ None
  pub reads : IsReading p a log x.visit.met x.picked x.work

-- what the log says of the servers, the clients and the counts that the volume keeps beside it
pub record IsVolume (crawl : Bool) (p : Plan) (log : List Line) (servers : List Serving) (actors : List Actor) (made : ℕ) : Type 0 where
  pub runnable : CanRun p
  pub room : length log ≤ p.turns
  pub served : AreServed p log servers
  pub same : length actors ≡ length p.clients
  pub each : (i : ℕ) (x : Actor) → slice_get actors i ≡ Some x → IsActing p log (i + 1) servers x
  pub made_is : made ≡ events_made log
  pub follows : Follows crawl p log
  pub honest : Honest p log
  pub lawful : IsLawfulExactly p log
  pub replied : Replied p log
  pub blamed : AreBlamed p log
  pub names : AreKept p log

-- healers are what their lines say
pub record AreHealers (crawl : Bool) (p : Plan) (log : List Line) (servers : List Serving) (healers : List Healer) : Type 0 where
  pub same : length healers ≡ length p.healers
  pub each : (i : ℕ) (x : Healer) → slice_get healers i ≡ Some x → IsHealer crawl p log (17 + i) servers x

-- ---- where the healers crawl
-- a worker is at a task: its list is one item, and its lines so far are of that item
pub record IsAtTask (a : ℕ) (log : List Line) (m : Rounding) : Type 0 where
  pub item : Gfid × What
  pub list : m.round.list ≡ Some (item ∷ [])
  pub of : AreOfItem item (work a log)

abbrev pub IsAtIts : ℕ → List Line → Option Rounding → Type 0
IsAtIts a log None = Unit {0}
IsAtIts a log (Some m) = IsAtTask a log m

-- the plan can be crawled, and each healer but the first is at its task
pub record AreCrawling (p : Plan) (log : List Line) (healers : List Healer) : Type 0 where
  pub can : CanCrawl p
  pub tasks : (i : ℕ) (x : Healer) → slice_get healers i ≡ Some x → 1 ≤ i → IsAtIts (17 + i) log x.round

-- ---- the whole
-- and of the healers; all keep their pace, and where the healers crawl, each worker is at its task
pub record IsWhole (crawl : Bool) (p : Plan) (log : List Line) (servers : List Serving) (actors : List Actor) (healers : List Healer) (made : ℕ) : Type 0 where
  pub kept : IsVolume crawl p log servers actors made
  pub healing : AreHealers crawl p log servers healers
  pub pacing : ArePaced p log actors healers
  pub crawling : crawl ≡ true → AreCrawling p log healers
