-- What a request needs of its server follows from what the log says of it, and what a read is given is what the log has.
use Rattle.std.specs.Prelude.{◌≡◌, ℕ, ◌<◌, ◌≤◌, ◌-◌, ◌^◌, Bool, true, false, not, List, Option, None, length}
use Rattle.afr_base.specs.Bricks.{IsWithin, member}
use Rattle.afr_base.specs.declared.ids.ActorId.{ActorId}
use Rattle.afr_base.specs.declared.ids.BrickId.{BrickId}
use Rattle.afr_faults.specs.Planned.{next_fault}
use Rattle.afr_lines.specs.Log.{change_at}
use Rattle.afr_lines.specs.Places.{opens, place_of}
use Rattle.afr_lines.specs.Told.{told_by}
use Rattle.afr_lines.specs.declared.answer.Told.TheVariants.{Given}
use Rattle.afr_lines.specs.declared.line.Line.{Line}
use Rattle.afr_lines.specs.declared.request.Area.{Area}
use Rattle.afr_lines.specs.declared.request.Request.{Request}
use Rattle.afr_lines.specs.declared.request.Request.TheVariants as request
use Rattle.afr_model.specs.Honest.{answer_by, asking, outcome_of}
use Rattle.afr_model.specs.Locks.{locks_held}
use Rattle.afr_model.specs.Report.{started_bricks}
use Rattle.afr_model.specs.Tables.{held_before, holds}
use Rattle.afr_model_moves.specs.Covering.{HasItsLocks, HasNumber}
use Rattle.afr_object.specs.declared.change.Change.{Change}
use Rattle.afr_object.specs.declared.change.Load.{Load}
use Rattle.afr_plan.specs.declared.plan.Plan.{Plan}
use Rattle.afr_lines.specs.declared.lock.Domain.{Domain}
use Rattle.afr_server.specs.declared.server.Served.{Served}
use Rattle.afr_server.specs.Carried.{Brings, CanCarryOut, CanLock}
use Rattle.afr_server.specs.Covered.{IsUnderLocks}
use Rattle.afr_server.specs.Outcome.{is_carried_out}
use Rattle.afr_server.specs.Serving.{HasEpoch, Serving}
use Rattle.afr_law_tables.specs.Carrying.{CanCarry}
use Rattle.afr_servers.specs.Calls.{At}
use Rattle.afr_servers.specs.Log.{AreServed}
use Rattle.afr_servers.specs.Started.{started_in}
use Rattle.afr_servers.specs.Visiting.{AreInSession, ServesNext, has_live}
use Rattle.afr_servers.specs.declared.epochs.Epochs.{Epochs}

-- whether the brick would carry the request out next, by the log
abbrev pub would_carry : Plan → ActorId → BrickId → Request → List Line → Bool
would_carry p a b request log = (outcome_of p a b.0 request (asking a b request) log).took

-- the change that a request carries out: that of an operation's attempt
abbrev pub change_for : Request → List Line → Option Change
change_for (request.Apply attempt) log = change_at attempt log
change_for other log = None

-- a server carries the request of a visit out exactly where the log says so
abbrev pub CarriesByTheLog : Type 0
CarriesByTheLog =
    (p : Plan) (log : List Line) (a : ActorId) (met : Bool) (epochs : Epochs) (b : BrickId) (request : Request) (servers : List Serving)
    → a.0 < 20 → AreServed p log servers → AreInSession met a.0 epochs servers → opens (place_of a.0 log) (asking a b request) ≡ not met
    → At b.0 servers (λ s. is_carried_out (has_live met a epochs b.0 s) (next_fault s.faults) ≡ would_carry p a b request log)

-- what the log's tables can carry out with what the load brings, the server's can
abbrev pub CanServe : Type 0
CanServe =
    (p : Plan) (log : List Line) (b : BrickId) (request : Request) (load : Load) (servers : List Serving)
    → AreServed p log servers → CanCarry p log b.0 request → Brings request load log (held_before p log)
    → At b.0 servers (λ s. CanCarryOut request load s.copies.objects)

-- what is covered by the log's locks is covered by the server's
abbrev pub IsCoveredThere : Type 0
IsCoveredThere =
    (p : Plan) (log : List Line) (a : ActorId) (b : BrickId) (request : Request) (load : Load) (servers : List Serving)
    → AreServed p log servers → HasItsLocks (locks_held b.0 log) a request (change_for request log) → Brings request load log (held_before p log)
    → At b.0 servers (IsUnderLocks a request load)

-- one more request can be counted
abbrev pub CanCount : Serving → Type 0
CanCount s = s.faults.requests < 2 ^ 32 - 1

-- after fewer than 4,000,000 lines one more request can be counted, and every actor can be given an epoch
abbrev pub HasRoom : Type 0
HasRoom =
    (p : Plan) (log : List Line) (b : ℕ) (servers : List Serving) → AreServed p log servers → length log < 4000000
    → At b servers (λ s. CanCount s × ((a : ActorId) → a.0 < 20 → HasEpoch a s))

-- an area that has a number can be locked
abbrev pub RangesCanBeLocked : Type 0
RangesCanBeLocked = (domain : Domain) (area : Area) → HasNumber area → CanLock (request.Lock domain area)

-- what a request needs of its server, in the log's words
pub record NeedsAreMet : Type 0 where
  pub carries : CarriesByTheLog
  pub can : CanServe
  pub covered : IsCoveredThere
  pub room : HasRoom
  pub lock : RangesCanBeLocked

-- whether a request reads what a copy or the index holds
abbrev pub is_read : Request → Bool
is_read (request.ReadBytes g at len) = true
is_read (request.ReadName g name) = true
is_read (request.List g) = true
is_read (request.ReadAttr g key) = true
is_read (request.ReadAttrs g) = true
is_read request.Index = true
is_read other = false

-- what was read on brick b is what the log's tables have there
abbrev pub IsReadOfTables : Plan → List Line → BrickId → Request → Served → Type 0
IsReadOfTables p log b request given = is_read request ≡ true → told_by given.answer ≡ Given → given.answer ≡ answer_by None request (holds p log b.0) log

-- what a read of a visit is given is what its brick's tables have after the log
abbrev pub AnswersAreRead : Type 0
AnswersAreRead =
    (p : Plan) (log : List Line) (a : ActorId) (met : Bool) (epochs after : Epochs) (b : BrickId) (request : Request) (load : Load) (old new : List Serving) (given : Served)
    → AreServed p log old → ServesNext met a b request load epochs old new after given → IsReadOfTables p log b request given

-- a server is started where the log says so; where events name bricks of the volume alone, the started servers are the started bricks
pub record StartedAreKnown : Type 0 where
  pub each :
      (p : Plan) (log : List Line) (b : ℕ) (servers : List Serving)
      → AreServed p log servers → At b servers (λ s. s.links.started ≡ member (started_bricks p.shape.n log) b)
  pub all :
      (p : Plan) (log : List Line) (servers : List Serving) → p.shape.n ≤ 5
      → AreServed p log servers → IsWithin p.shape.n (started_bricks p.shape.n log) → started_in servers ≡ started_bricks p.shape.n log
