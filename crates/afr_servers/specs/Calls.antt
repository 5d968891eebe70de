-- What each call makes of the servers of a volume.
use Rattle.std.specs.Prelude.{◌≡◌, ◌≢◌, ℕ, ◌<◌, ◌≤◌, ◌⊎◌, true, false, List, Some, length, slice_get, slice_set}
use Rattle.afr_base.specs.declared.ids.ActorId.{ActorId}
use Rattle.afr_faults.specs.Planned.{next_fault}
use Rattle.afr_lines.specs.declared.line.Event.{Event}
use Rattle.afr_lines.specs.declared.request.Request.{Request}
use Rattle.afr_object.specs.declared.change.Load.{Load}
use Rattle.afr_server.specs.declared.server.Served.{Served}
use Rattle.afr_server.specs.Happening.{IsAlready, Meets}
use Rattle.afr_server.specs.Outcome.{Serves}
use Rattle.afr_server.specs.Serving.{Serving, epoch_of, has_session, is_met}
use Rattle.afr_session.specs.Calls.{Does}
use Rattle.afr_session.specs.Calls.Call.{Meet}
use Rattle.afr_servers.specs.Found.{epoch_at}
use Rattle.afr_servers.specs.declared.epochs.Epochs.{Epochs}

-- a fact of the server of brick b
abbrev pub At : ℕ → List Serving → (Serving → Type 0) → Type 0
At b servers P = (s : Serving) → slice_get servers b ≡ Some s → P s

-- brick b served a request over the epoch that its actor found there, and the others are as they were
pub record AsksOne (a : ActorId) (epochs : Epochs) (b : ℕ) (request : Request) (load : Load) (old new : List Serving) (given : Served) : Type 0 where
  pub was : Serving
  pub now : Serving
  pub there : slice_get old b ≡ Some was
  pub serves : Serves false (has_session (epoch_at b epochs) a was) (next_fault was.faults) a request load was now given
  pub servers : new ≡ slice_set old b now

-- the actor met the brick: its link has a live session where it reaches the brick, and nothing else changed
pub record IsMet (a : ActorId) (old new : Serving) : Type 0 where
  pub does : Does (Meet a.0) old.links new.links
  pub same : new ≡ record old { links = new.links }

-- the epoch that the actor finds at each brick by meeting it
abbrev pub AreEpochs : ActorId → List Serving → Epochs → Type 0
AreEpochs a old epochs = (b : ℕ) (s : Serving) → slice_get old b ≡ Some s → epoch_at b epochs ≡ epoch_of a s

-- the first line of a work: brick b met the actor and served its request, each other brick met it
pub record AsksFirst (a : ActorId) (b : ℕ) (request : Request) (load : Load) (old new : List Serving) (epochs : Epochs) (given : Served) : Type 0 where
  pub count : length new ≡ length old
  pub there : b < length old
  pub serves : (s s' : Serving) → slice_get old b ≡ Some s → slice_get new b ≡ Some s' → Serves true (is_met a s) (next_fault s.faults) a request load s s' given
  pub meets : (y : ℕ) (s s' : Serving) → y ≢ b → slice_get old y ≡ Some s → slice_get new y ≡ Some s' → IsMet a s s'
  pub found : AreEpochs a old epochs

-- every brick met the actor
pub record MeetsAll (a : ActorId) (old new : List Serving) (epochs : Epochs) : Type 0 where
  pub count : length new ≡ length old
  pub meets : (y : ℕ) (s s' : Serving) → slice_get old y ≡ Some s → slice_get new y ≡ Some s' → IsMet a s s'
  pub found : AreEpochs a old epochs

-- the bricks from one up to another met the actor, whose epochs there are now those; the rest is as it was
pub record MeetsBetween (a : ActorId) (from to : ℕ) (old new : List Serving) (before after : Epochs) : Type 0 where
  pub count : length new ≡ length old
  pub meets : (y : ℕ) (s s' : Serving) → from ≤ y → y < to → slice_get old y ≡ Some s → slice_get new y ≡ Some s' → IsMet a s s'
  pub epochs : (y : ℕ) (s : Serving) → from ≤ y → y < to → slice_get old y ≡ Some s → epoch_at y after ≡ epoch_of a s
  pub others : (y : ℕ) → (y < from) ⊎ (to ≤ y) → slice_get new y ≡ slice_get old y
  pub kept : (y : ℕ) → (y < from) ⊎ (to ≤ y) → epoch_at y after ≡ epoch_at y before

-- an event came to brick b, where it changes nothing that is so already
pub record IsEvent (event : Event) (b : ℕ) (old new : Serving) : Type 0 where
  pub meets : Meets event b old new
  pub same : IsAlready event b old → new ≡ old

-- an event came to every brick
pub record MeetsEach (event : Event) (old new : List Serving) : Type 0 where
  pub count : length new ≡ length old
  pub each : (b : ℕ) (s s' : Serving) → slice_get old b ≡ Some s → slice_get new b ≡ Some s' → IsEvent event b s s'
