-- One line of an actor: what its work would write next, what the bricks make of it, and what it makes of the answer.
use Rattle.std.specs.Prelude.{◌≡◌, ℕ, ◌+◌, ◌<◌, Bool, true, false, List, Option, None, map, if◌then◌else◌}
use Rattle.afr_base.specs.declared.ids.ActorId.{ActorId}
use Rattle.afr_base.specs.declared.ids.BrickId.{BrickId}
use Rattle.afr_lines.specs.declared.answer.Answer.{Answer}
use Rattle.afr_lines.specs.declared.line.Heard.TheVariants as heard
use Rattle.afr_lines.specs.declared.line.Line.{Line}
use Rattle.afr_lines.specs.declared.line.Line.TheVariants as line
use Rattle.afr_lines.specs.declared.line.Next.{Next}
use Rattle.afr_lines.specs.declared.line.Next.TheVariants as next
use Rattle.afr_lines.specs.declared.request.Request.{Request}
use Rattle.afr_model_moves.specs.Ranges.{InRange, RequestInRange}
use Rattle.afr_object.specs.declared.change.Change.{Change}
use Rattle.afr_object.specs.declared.change.Load.{Load}
use Rattle.afr_lines.specs.declared.reply.Reply.{Reply}
use Rattle.afr_rule.specs.Choosing.{Calls}
use Rattle.afr_server.specs.NextLine.{told_line}
use Rattle.afr_server.specs.Serving.{HasEpoch, Serving}
use Rattle.afr_server.specs.declared.server.Served.{Served}
use Rattle.afr_servers.specs.Calls.{At}
use Rattle.afr_servers.specs.Visiting.{CanAsk, MeetsNext, ServesNext, visiting}
use Rattle.afr_servers.specs.declared.epochs.Epochs.{Epochs}
use Rattle.afr_law_picks.specs.Laws.{HearsPick, number_in}
use Rattle.afr_law_client.specs.Read.Lines.{is_look}
use Rattle.afr_client_walk.specs.Choosing.{RuleAnswers, reader_of}
use Rattle.afr_client.specs.Work.{CarriesNext, choices_of, heard_by, next_of}
use Rattle.afr_client.specs.declared.work.WorkMachine.{WorkMachine}
use Rattle.afr_client.specs.declared.work.WorkMachine.TheVariants.{Idle}
use Rattle.afr_volume.specs.declared.actor.Actor.{Actor}

-- what the bricks need for the actor's next line
pub record CanStep (a : ActorId) (at : ℕ) (x : Actor) (servers : List Serving) : Type 0 where
  pub known : a.0 < 20
  pub room : (b : ℕ) → At b servers (HasEpoch a)
  pub asks : (b : BrickId) (request : Request) (load : Load) → next_of at x.work ≡ next.Ask b request → RequestInRange request → CarriesNext x.work load → CanAsk a x.visit b request load servers

-- ---- the copy that the read rule has picked
-- a client has the brick that the rule answered at the last look of its latest work
abbrev pub picked_by : Actor → Option ℕ
picked_by x = number_in x.picked

abbrev pub picked_of : List Actor → List (Option ℕ)
picked_of actors = map picked_by actors

-- a look takes the place of what was picked before it, and so does a work's first line
abbrev pub picks_anew : Bool → Request → Bool
picks_anew false request = true
picks_anew true request = is_look request

abbrev pub picked_after : Bool → Request → Option BrickId → Option BrickId → Option BrickId
picked_after met request now kept = if picks_anew met request then now else kept

-- a first line that is no request has none picked
abbrev pub still_picked : Bool → Option BrickId → Option BrickId
still_picked met kept = if met then kept else None

-- ---- one line
-- what an answer leaves of a work, and what the read rule answered then
abbrev pub Hearing : Type 1
Hearing = Answer → ℕ → WorkMachine → WorkMachine → Option BrickId → Type 0

-- the rule was asked where there was anything to choose from, and its copy is the one that is read
pub record HearsBy {F : Type 0} (calls : Calls F) (choose : F) (answer : Answer) (at : ℕ) (old new : WorkMachine) (picked : Option BrickId) : Type 0 where
  pub answers : RuleAnswers calls choose (choices_of answer at old) picked
  pub value : new ≡ heard_by (reader_of picked) (heard.Answer answer at) old

-- the same, whatever rule it was
abbrev pub HearsAny : Answer → ℕ → WorkMachine → WorkMachine → Option BrickId → Type 0
HearsAny answer at old new picked = HearsPick (heard.Answer answer at) old new picked

-- an actor has heard the answer to its request, which was its work's first line or another
pub record HasHeard (Hears : Hearing) (answer : Answer) (at : ℕ) (met : Bool) (request : Request) (x y : Actor) : Type 0 where
  pub after : WorkMachine
  pub picked : Option BrickId
  pub hears : Hears answer at x.work after picked
  pub becomes : y ≡ record { ended = x.ended; killed = x.killed; visit = x.visit; picked = picked_after met request picked x.picked; work = after }

-- a request was asked, with the contents that the work brings, and its answer heard
pub record IsAsked (Hears : Hearing) (a : ActorId) (at : ℕ) (b : BrickId) (request : Request) (x y : Actor) (old new : List Serving) (written : Line) : Type 0 where
  pub given : Served
  pub epochs : Epochs
  pub load : Load
  pub carries : CarriesNext x.work load
  pub fits : RequestInRange request
  pub served : ServesNext x.visit.met a b request load x.visit.epochs old new epochs given
  pub is_line : written ≡ told_line a b request given
  pub heard : HasHeard Hears given.answer at x.visit.met request (record x { visit = visiting epochs }) y

-- an attempt was begun
pub record IsBegun (a : ActorId) (at : ℕ) (change : Change) (x y : Actor) (old new : List Serving) (written : Line) : Type 0 where
  pub epochs : Epochs
  pub met : MeetsNext x.visit.met a x.visit.epochs old new epochs
  pub is_line : written ≡ line.Begin a change
  pub fits : InRange written
  pub becomes : y ≡ record { ended = x.ended; killed = x.killed; visit = visiting epochs; picked = still_picked x.visit.met x.picked; work = heard_by (reader_of None) (heard.Begun at) x.work }

-- a work was ended
pub record IsEnded (a : ActorId) (said : Reply) (x y : Actor) (old new : List Serving) (written : Line) : Type 0 where
  pub epochs : Epochs
  pub met : MeetsNext x.visit.met a x.visit.epochs old new epochs
  pub is_line : written ≡ line.End a said
  pub fits : InRange written
  pub becomes : y ≡ record { ended = x.ended + 1; killed = x.killed; visit = record { met = false; epochs = epochs }; picked = still_picked x.visit.met x.picked; work = Idle }

-- one line of an actor, by what its work would write next
abbrev pub SteppedBy : Hearing → ActorId → ℕ → Actor → Actor → List Serving → List Serving → Line → Next → Type 0
SteppedBy Hears a at x y old new written (next.Ask b request) = IsAsked Hears a at b request x y old new written
SteppedBy Hears a at x y old new written (next.Begin change) = IsBegun a at change x y old new written
SteppedBy Hears a at x y old new written (next.End said) = IsEnded a said x y old new written
SteppedBy Hears a at x y old new written other = ⊥

-- the same of a line that is no request, which asks no rule
abbrev pub WrittenBy : ActorId → ℕ → Actor → Actor → List Serving → List Serving → Line → Next → Type 0
WrittenBy a at x y old new written (next.Begin change) = IsBegun a at change x y old new written
WrittenBy a at x y old new written (next.End said) = IsEnded a said x y old new written
WrittenBy a at x y old new written other = ⊥

abbrev pub Written : ActorId → ℕ → Actor → Actor → List Serving → List Serving → Line → Type 0
Written a at x y old new written = WrittenBy a at x y old new written (next_of at x.work)

-- one line of an actor whose work has begun
abbrev pub Stepped : Hearing → ActorId → ℕ → Actor → Actor → List Serving → List Serving → Line → Type 0
Stepped Hears a at x y old new written = SteppedBy Hears a at x y old new written (next_of at x.work)
