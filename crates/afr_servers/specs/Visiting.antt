-- An actor's visit to the bricks: what its next line needs of them, and what they make of it.
use Rattle.std.specs.Prelude.{◌≡◌, ℕ, ◌-◌, ◌<◌, ◌^◌, Bool, true, false, List, length}
use Rattle.afr_base.specs.declared.ids.ActorId.{ActorId}
use Rattle.afr_base.specs.declared.ids.BrickId.{BrickId}
use Rattle.afr_faults.specs.Planned.{next_fault}
use Rattle.afr_lines.specs.declared.request.Request.{Request}
use Rattle.afr_object.specs.declared.change.Load.{Load}
use Rattle.afr_server.specs.Carried.{CanCarryOut, CanLock}
use Rattle.afr_server.specs.Covered.{IsUnderLocks}
use Rattle.afr_server.specs.Outcome.{is_carried_out}
use Rattle.afr_server.specs.Serving.{Serving, has_session, is_met}
use Rattle.afr_server.specs.declared.server.Served.{Served}
use Rattle.afr_servers.specs.Calls.{AsksFirst, AsksOne, At, MeetsAll}
use Rattle.afr_servers.specs.Found.{epoch_at}
use Rattle.afr_servers.specs.Log.{AreFound}
use Rattle.afr_servers.specs.declared.epochs.Epochs.{Epochs}
use Rattle.afr_servers.specs.declared.visit.Visit.{Visit}

-- a visit that has met the bricks
abbrev pub visiting : Epochs → Visit
visiting epochs = record { met = true; epochs = epochs }

-- the epochs of a visit that has met the bricks are those of its actor's live sessions
abbrev pub AreInSession : Bool → ℕ → Epochs → List Serving → Type 0
AreInSession true a epochs servers = AreFound a epochs servers
AreInSession false a epochs servers = Unit {0}

-- whether a request has a live session: one that the visit has met, or one that this line meets
abbrev pub has_live : Bool → ActorId → Epochs → ℕ → Serving → Bool
has_live true a epochs b s = has_session (epoch_at b epochs) a s
has_live false a epochs b s = is_met a s

-- what the bricks need for a request and what it brings: the one that is asked is there, has counts left, can carry it out, and sees the actor's locks
pub record CanAsk (a : ActorId) (v : Visit) (b : BrickId) (request : Request) (load : Load) (servers : List Serving) : Type 0 where
  pub there : b.0 < length servers
  pub count : At b.0 servers (λ s. s.faults.requests < 2 ^ 32 - 1)
  pub lock : CanLock request
  pub can : At b.0 servers (λ s. is_carried_out (has_live v.met a v.epochs b.0 s) (next_fault s.faults) ≡ true → CanCarryOut request load s.copies.objects)
  pub covered : At b.0 servers (λ s. is_carried_out (has_live v.met a v.epochs b.0 s) (next_fault s.faults) ≡ true → IsUnderLocks a request load s)

-- the brick served the request over a session that the visit has met, or this line met all bricks
abbrev pub ServesNext : Bool → ActorId → BrickId → Request → Load → Epochs → List Serving → List Serving → Epochs → Served → Type 0
ServesNext true a b request load old bricks after new given = (new ≡ old) × AsksOne a old b.0 request load bricks after given
ServesNext false a b request load old bricks after new given = AsksFirst a b.0 request load bricks after new given

-- so the request was served, and the visit has met the bricks
pub record IsServed (a : ActorId) (v w : Visit) (b : BrickId) (request : Request) (load : Load) (bricks after : List Serving) (given : Served) : Type 0 where
  pub met : w ≡ visiting w.epochs
  pub served : ServesNext v.met a b request load v.epochs bricks after w.epochs given

-- all bricks were met, where the line is the visit's first
abbrev pub MeetsNext : Bool → ActorId → Epochs → List Serving → List Serving → Epochs → Type 0
MeetsNext true a old bricks after new = (new ≡ old) × (after ≡ bricks)
MeetsNext false a old bricks after new = MeetsAll a bricks after new
