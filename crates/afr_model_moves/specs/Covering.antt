-- The locks under which a brick's copy is changed: which area covers which request.
use Rattle.std.specs.Prelude.{◌≡◌, ◌+◌, ◌^◌, ◌<◌, ◌≤◌, Contains, List, Option, None, Some}
use Rattle.afr_base.specs.declared.ids.ActorId.{ActorId}
use Rattle.afr_object.specs.declared.change.Change.{Change}
use Rattle.afr_object.specs.declared.change.Repair.{Repair}
use Rattle.afr_object.specs.declared.change.Repair.TheVariants.{Copy, CutTo, PutAttrs, PutNames}
use Rattle.afr_lines.specs.declared.request.Area.{Area}
use Rattle.afr_lines.specs.declared.request.Area.TheVariants.{Name, Range}
use Rattle.afr_lines.specs.declared.request.Request.{Request}
use Rattle.afr_lines.specs.declared.request.Request.TheVariants.{Apply, Mend, Post, Pre, Settle}
use Rattle.afr_lines.specs.declared.lock.Domain.TheVariants.{Heal, Work}
use Rattle.afr_lines.specs.declared.lock.HeldLock.{HeldLock}
use Rattle.afr_model_moves.specs.Honest.{plane_kind}
use Rattle.afr_model_moves.specs.Past.{object, repaired}
use Rattle.afr_model_moves.specs.Register.{PlaneIn, whole_area}
use Rattle.afr_model_moves.specs.Rules.{heal_area, repair_kind}
use Rattle.afr_model_moves.specs.Transaction.{LiesIn}

-- the request changes copies or their numbers
abbrev pub Changes : Request → Type 0
Changes (Pre g kind) = Unit {0}
Changes (Apply attempt) = Unit {0}
Changes (Post attempt g kind missed) = Unit {0}
Changes (Mend repair) = Unit {0}
Changes (Settle g kind less) = Unit {0}
Changes request = ⊥

-- the repair lies in the area: its object, and the bytes, attributes or names that it puts
abbrev pub MendsIn : Area → Repair → Type 0
MendsIn (Range g from to) (CutTo h len) = (g.0 ≡ h.0) × (from ≤ len) × (to ≡ 2 ^ 63)
MendsIn (Range g from to) (Copy h at span read) = (g.0 ≡ h.0) × (from ≤ at) × (at + span ≤ to) × (to ≤ 2 ^ 63)
MendsIn (Range g from to) (PutAttrs h read) = (g.0 ≡ h.0) × (from ≡ 2 ^ 63) × (to ≡ 2 ^ 63 + 1)
MendsIn (Name g name) (PutNames h reads) = (g.0 ≡ h.0) × (name ≡ None)
MendsIn _ _ = ⊥

-- the change of an attempt lies in the area, on its object and in its kind
abbrev pub AppliesIn : Area → Option Change → Type 0
AppliesIn area None = ⊥
AppliesIn area (Some change) = PlaneIn (Some area) (object change) (plane_kind change) × LiesIn (Some area) change

-- the area covers the request: it lies on its object and in its kind, has what an Apply or a Mend touches, and is the whole kind for a Settle; the change is that of an Apply's attempt
abbrev pub Covers : Area → Request → Option Change → Type 0
Covers area (Pre g kind) change = PlaneIn (Some area) g.0 kind
Covers area (Apply attempt) change = AppliesIn area change
Covers area (Post attempt g kind missed) change = PlaneIn (Some area) g.0 kind
Covers area (Mend repair) change = PlaneIn (Some area) (repaired repair) (repair_kind repair) × MendsIn area repair
Covers area (Settle g kind less) change = area ≡ whole_area g.0 kind
Covers area request change = Unit {0}

-- a Settle is asked under the Heal lock of its object too
abbrev pub HasHealLock : List (HeldLock Area) → ActorId → Request → Type 0
HasHealLock locks a (Settle g kind less) = Contains locks (record { owner = a; domain = Heal; area = heal_area g.0 })
HasHealLock locks a request = Unit {0}

-- among these locks the actor has a Work lock that covers the request, and for a Settle the Heal lock
pub record IsCovered (locks : List (HeldLock Area)) (a : ActorId) (request : Request) (change : Option Change) : Type 0 where
  pub area : Area
  pub work : Contains locks (record { owner = a; domain = Work; area = area })
  pub covers : Covers area request change
  pub heal : HasHealLock locks a request

-- a request that changes something is covered
abbrev pub HasItsLocks : List (HeldLock Area) → ActorId → Request → Option Change → Type 0
HasItsLocks locks a request change = Changes request → IsCovered locks a request change

-- a range has a number in it
abbrev pub HasNumber : Area → Type 0
HasNumber (Range g from to) = from < to
HasNumber (Name g name) = Unit {0}
