-- A server as its callers see it, and what a request finds there.
use Rattle.std.specs.Prelude.{ℕ, ◌-◌, ◌^◌, ◌<◌, ◌==◌, ◌&&◌, Bool, true, false, List, [], ◌∷◌, Option, Some, None, ◌≡◌}
use Rattle.afr_base.specs.declared.ids.ActorId.{ActorId}
use Rattle.afr_object.specs.State.{Copies}
use Rattle.afr_faults.specs.Planned.{Planned}
use Rattle.afr_lines.specs.declared.request.Area.TheVariants.{Range, Name}
use Rattle.afr_lines.specs.declared.request.Request.{Request}
use Rattle.afr_lines.specs.declared.request.Request.TheVariants.{Lock}
use Rattle.afr_name_locks.specs.Names.{name_lock, overlap_dir_name}
use Rattle.afr_name_locks.specs.declared.names.DirName.{DirName}
use Rattle.afr_range_locks.specs.Locks.{overlap_range, range_lock}
use Rattle.afr_lines.specs.Locks.{first_conflict}
use Rattle.afr_lines.specs.declared.lock.HeldLock.{HeldLock}
use Rattle.afr_range_locks.specs.declared.ranges.ObjectRange.{ObjectRange}
use Rattle.afr_session.specs.Links.{Links, epoch_met, is_reached, link_of, opens}
use Rattle.afr_session.specs.declared.link.Link.{Link}

-- the copies of a brick, the locks on ranges and on names in the order in which they were granted, the links of the actors, and the planned faults
pub record Serving : Type 0 where
  pub copies : Copies
  pub ranges : List (HeldLock ObjectRange)
  pub names : List (HeldLock DirName)
  pub links : Links
  pub faults : Planned

-- the link of an actor
abbrev pub link_for : ActorId → Serving → Link
link_for a s = link_of a.0 s.links

-- whether the session of this epoch is the live one of the link
abbrev pub is_epoch : Option ℕ → Link → Bool
is_epoch None l = false
is_epoch (Some epoch) l = l.live && (l.opened == epoch)

-- whether a request of the actor over this epoch has a live session
abbrev pub has_session : Option ℕ → ActorId → Serving → Bool
has_session epoch a s = is_epoch epoch (link_for a s)

-- whether the first line of a work of the actor has a session, be it opened by this line
abbrev pub is_met : ActorId → Serving → Bool
is_met a s = is_reached s.links.started (link_for a s)

-- the epoch of that session
abbrev pub epoch_of : ActorId → Serving → Option ℕ
epoch_of a s = epoch_met s.links.started (link_for a s)

-- where a meeting opens a session, there is a number left for it
abbrev pub HasEpoch : ActorId → Serving → Type 0
HasEpoch a s = opens s.links.started (link_for a s) ≡ true → (link_for a s).opened < 2 ^ 32 - 1

-- who is in the way of a request: for a lock, the owner of the earliest one that conflicts
abbrev pub way_in : ActorId → Request → List (HeldLock ObjectRange) → List (HeldLock DirName) → Option ActorId
way_in a (Lock domain (Range g from to)) ranges names = first_conflict overlap_range (range_lock a domain g from to) ranges
way_in a (Lock domain (Name g name)) ranges names = first_conflict overlap_dir_name (name_lock a domain g name) names
way_in a request ranges names = None

-- who is in its way on the server
abbrev pub in_way : ActorId → Request → Serving → Option ActorId
in_way a request s = way_in a request s.ranges s.names

-- each lock's owner has a live session
abbrev pub AreOwned : {A : Type 0} → Links → List (HeldLock A) → Type 0
AreOwned links [] = Unit {0}
AreOwned links (lock ∷ more) = ((link_of lock.owner.0 links).live ≡ true) × AreOwned links more

-- no lock outlives the session of its owner
pub record IsGuarded (links : Links) (ranges : List (HeldLock ObjectRange)) (names : List (HeldLock DirName)) : Type 0 where
  pub over_ranges : AreOwned links ranges
  pub over_names : AreOwned links names
