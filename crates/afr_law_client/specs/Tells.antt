-- What the lines of a work show of its transaction: the machine's sets are the folds of the lines.
use Rattle.std.specs.Prelude.{◌≡◌, ℕ, ◌<◌, ◌&&◌, ◌==◌, Bool, true, false, List, [], Option, Some}
use Rattle.afr_base.specs.Bricks.{member, IsIn}
use Rattle.afr_base.specs.Majority.{is_majority, is_most}
use Rattle.afr_base.specs.declared.ids.Gfid.{Gfid}
use Rattle.afr_base.specs.declared.ids.Shape.{Shape}
use Rattle.afr_object.specs.Tables.{object_of}
use Rattle.afr_object.specs.declared.change.Change.{Change}
use Rattle.afr_choice.specs.Looks.{no_looks}
use Rattle.afr_choice.specs.Verdict.{holders_of}
use Rattle.afr_choice.specs.declared.looked.Looked.{Looked}
use Rattle.afr_lines.specs.Areas.{area_for, kind_for}
use Rattle.afr_lines.specs.Overlap.{same_area}
use Rattle.afr_lines.specs.Work.{Work}
use Rattle.afr_lines.specs.declared.request.Area.{Area}
use Rattle.afr_model_moves.specs.Honest.{plane_kind}
use Rattle.afr_model_moves.specs.Keeps.{keeps_in}
use Rattle.afr_model_moves.specs.Register.{all, holder}
use Rattle.afr_discipline.specs.Notes.{asked_at}
use Rattle.afr_discipline.specs.Stands.{views_of}
use Rattle.afr_discipline.specs.Tests.{ends_low, fits_view, lies_in, suffices_by}
use Rattle.afr_discipline.specs.declared.register.Step.TheVariants.{Pres, Applies, Posts}
use Rattle.afr_client_transaction.specs.Progress.{TransactionProgress, numbered}
use Rattle.afr_client_transaction.specs.Sound.{HasQuorum}
use Rattle.afr_client_transaction.specs.declared.stage.Stage.{Stage}
use Rattle.afr_client_transaction.specs.declared.stage.Stage.TheVariants.{Locking, Looking, Beginning, Preparing, Applying, Posting, Closing}
use Rattle.afr_plan.specs.declared.plan.Plan.{Plan}
use Rattle.afr_model.specs.Showing.{looked_by, among, looking, preparing, prepared, applying, applied_at, posting, posted, has, looks_at, locks, begins_attempt, begun_by}
use Rattle.afr_model.specs.Standing.{locks_any, locks_area, asking, getting, change_by, suffices}

-- no other area was locked, and another object that was looked at, was at every brick
pub record IsAlone (n : ℕ) (g : Gfid) (area : Area) (w : Work) : Type 0 where
  pub unlocked : (other : Area) → same_area other area ≡ false → has (locks_area other) w ≡ false
  pub looked : (h : Gfid) → (g.0 == h.0) ≡ false → has (looks_at h) w ≡ true → (b : ℕ) → b < n → member (among (looking h) w) b ≡ true

-- the bricks that were asked for the lock, those that granted it, those that did the phases, and the attempt's number
pub record AreSets (area : Area) (lock_asked locked_on pre done post : List ℕ) (begun : Option ℕ) (w : Work) : Type 0 where
  pub asked : lock_asked ≡ among (asking area) w
  pub granted : locked_on ≡ among (getting area) w
  pub prepared : pre ≡ among prepared w
  pub applied : done ≡ among applied_at w
  pub posted : post ≡ among posted w
  pub number : begun ≡ begun_by w

-- the looks, and the bricks that were looked at
pub record AreLooks (g : Gfid) (shown : Looked) (looked_at : List ℕ) (w : Work) : Type 0 where
  pub shows : shown ≡ looked_by g w
  pub at : looked_at ≡ among (looking g) w

-- no attempt was begun, and no phase was asked
pub record IsBeforeBegin (begun : Bool) (pre pre_did apply apply_did post post_did : List ℕ) : Type 0 where
  pub unbegun : begun ≡ false
  pub no_pre : pre ≡ []
  pub no_pre_did : pre_did ≡ []
  pub no_apply : apply ≡ []
  pub no_apply_did : apply_did ≡ []
  pub no_post : post ≡ []
  pub no_post_did : post_did ≡ []

-- the same of lines
abbrev pub AreIdle : Work → Type 0
AreIdle w = IsBeforeBegin (has begins_attempt w) (among preparing w) (among prepared w) (among applying w) (among applied_at w) (among posting w) (among posted w)

-- a lock was asked, and nothing was looked at after it
pub record IsUnseen (is_locked : Bool) (shown : Looked) (looked_at : List ℕ) : Type 0 where
  pub locked : is_locked ≡ true
  pub unseen : shown ≡ no_looks
  pub unlooked : looked_at ≡ []

-- while the locks are asked
pub record OnLocks (g : Gfid) (shown : Looked) (looked_at : List ℕ) (w : Work) : Type 0 where
  pub idle : AreIdle w
  pub shows : shown ≡ no_looks
  pub at : looked_at ≡ []
  pub unseen : has locks_any w ≡ true → IsUnseen (has (locks g) w) (looked_by g w) (among (looking g) w)

-- a lock was asked, and of every brick
pub record AllLocked (n : ℕ) (is_locked : Bool) (lock_asked : List ℕ) : Type 0 where
  pub locked : is_locked ≡ true
  pub all : (b : ℕ) → b < n → member lock_asked b ≡ true

-- the same of lines
abbrev pub AreLocked : ℕ → Gfid → Area → Work → Type 0
AreLocked n g area w = AllLocked n (has (locks g) w) (among (asking area) w)

-- while the locked bricks are looked at: each that wasn't yet still holds its lock
pub record OnLooks (n : ℕ) (g : Gfid) (area : Area) (unlocked : Bool) (held : List ℕ) (shown : Looked) (looked_at : List ℕ) (w : Work) : Type 0 where
  pub idle : AreIdle w
  pub locked : AreLocked n g area w
  pub majority : is_majority n (among (getting area) w) ≡ true
  pub looks : AreLooks g shown looked_at w
  pub still : unlocked ≡ false
  pub held_on : (b : ℕ) → member (among (getting area) w) b ≡ true → member (among (looking g) w) b ≡ false → member held b ≡ true

-- a majority granted the lock and was looked at, and what they showed has a quorum with a good copy
pub record IsAllowed (shape : Shape) (change : Change) (is_locked : Bool) (lock_asked granted looked_at : List ℕ) (looked : Looked) : Type 0 where
  pub locked : AllLocked shape.n is_locked lock_asked
  pub majority : is_majority shape.n granted ≡ true
  pub looked_all : IsIn granted looked_at
  pub quorum : HasQuorum change shape looked

-- the same of lines
abbrev pub AreAllowed : Shape → Change → Work → Type 0
AreAllowed shape change w =
    IsAllowed shape change (has (locks (object_of change)) w) (among (asking (area_for change)) w) (among (getting (area_for change)) w) (among (looking (object_of change)) w) (looked_by (object_of change) w)

-- before the Begin line
pub record OnBegin (shape : Shape) (change : Change) (shown : Looked) (looked_at : List ℕ) (w : Work) : Type 0 where
  pub idle : AreIdle w
  pub allows : AreAllowed shape change w
  pub looks : AreLooks (object_of change) shown looked_at w

-- an attempt was begun, of this change with its number
pub record IsBegun (change : Change) (is_begun : Bool) (begun : Option ℕ) (changed : Option Change) : Type 0 where
  pub began : is_begun ≡ true
  pub attempt : ℕ
  pub number : begun ≡ Some attempt
  pub is_change : changed ≡ Some (numbered attempt change)

-- the same of lines
abbrev pub AreBegun : Change → Work → Type 0
AreBegun change w = IsBegun change (has begins_attempt w) (begun_by w) (change_by w)

-- an attempt goes on under its locks and looks
pub record IsUnder (shape : Shape) (change : Change) (shown : Looked) (looked_at : List ℕ) (w : Work) : Type 0 where
  pub attempt : AreBegun change w
  pub allows : AreAllowed shape change w
  pub looks : AreLooks (object_of change) shown looked_at w

-- while the pre-op is asked
pub record OnPre (asked : List ℕ) (w : Work) : Type 0 where
  pub pre : asked ≡ among preparing w
  pub no_apply : among applying w ≡ []
  pub no_apply_did : among applied_at w ≡ []
  pub no_post : among posting w ≡ []
  pub no_post_did : among posted w ≡ []

-- while the operation is asked
pub record OnApply (g : Gfid) (asked : List ℕ) (w : Work) : Type 0 where
  pub pre_all : IsIn (holders_of (looked_by g w)) (among preparing w)
  pub apply : asked ≡ among applying w
  pub no_post : among posting w ≡ []
  pub no_post_did : among posted w ≡ []

-- while the post-op is asked
pub record OnPost (shape : Shape) (change : Change) (asked : List ℕ) (w : Work) : Type 0 where
  pub pre_all : IsIn (holders_of (looked_by (object_of change) w)) (among preparing w)
  pub apply_all : IsIn (among prepared w) (among applying w)
  pub enough : suffices shape (kind_for change) (looked_by (object_of change) w) (among applied_at w) ≡ true
  pub post : asked ≡ among posting w

-- each phase was asked of every brick that did the one before, as long as they suffice
pub record GoesThroughPhases (suffices_for : List ℕ → Bool) (holders pre pre_did apply apply_did post : List ℕ) : Type 0 where
  pub pre_all : IsIn holders pre
  pub apply_all : suffices_for pre_did ≡ true → IsIn pre_did apply
  pub post_all : suffices_for pre_did ≡ true → suffices_for apply_did ≡ true → IsIn apply_did post

-- the same of lines
abbrev pub LinesGoThroughPhases : Shape → Change → Work → Type 0
LinesGoThroughPhases shape change w =
    GoesThroughPhases (suffices shape (kind_for change) (looked_by (object_of change) w)) (holders_of (looked_by (object_of change) w)) (among preparing w) (among prepared w) (among applying w) (among applied_at w) (among posting w)

-- what the lookups let begin: a change in its area, of such objects as they show, where a majority answered and a majority has a copy, one of them good
abbrev pub lookups_allow : Shape → Change → Looked → Bool
lookups_allow shape change looked =
    lies_in (Some (area_for change)) change && ends_low change && all shape.n (λ x. fits_view (views_of looked x) change) && is_most shape.n (member looked.reached)
    && suffices_by shape.n (keeps_in shape) (plane_kind change) (views_of looked) (holder (views_of looked))

-- why only unlocks are left: too few locks, lookups that don't allow the change, or an attempt that has gone as far as it could
pub data OnUnlocks (shape : Shape) (change : Change) (shown : Looked) (looked_at : List ℕ) (w : Work) : Type 0 where
  TooFew : AreIdle w → AreLocked shape.n (object_of change) (area_for change) w → AreLooks (object_of change) shown looked_at w → shown ≡ no_looks
      → is_majority shape.n (among (getting (area_for change)) w) ≡ false → OnUnlocks shape change shown looked_at w
  Unfit : AreIdle w → AreLocked shape.n (object_of change) (area_for change) w → AreLooks (object_of change) shown looked_at w
      → is_majority shape.n (among (getting (area_for change)) w) ≡ true → IsIn (among (getting (area_for change)) w) (among (looking (object_of change)) w)
      → lookups_allow shape change shown ≡ false → OnUnlocks shape change shown looked_at w
  Tried : IsUnder shape change shown looked_at w → LinesGoThroughPhases shape change w → OnUnlocks shape change shown looked_at w

-- what the lines show at each stage
abbrev pub During : Stage → Shape → TransactionProgress → Work → Type 0
During Locking shape m w = OnLocks (object_of m.change) m.register.looked m.asked.looked_at w
During Looking shape m w = OnLooks shape.n (object_of m.change) (area_for m.change) m.register.unlocked m.register.held m.register.looked m.asked.looked_at w
During Beginning shape m w = OnBegin shape m.change m.register.looked m.asked.looked_at w
During Preparing shape m w = IsUnder shape m.change m.register.looked m.asked.looked_at w × OnPre (asked_at m.register Pres) w
During Applying shape m w = IsUnder shape m.change m.register.looked m.asked.looked_at w × OnApply (object_of m.change) (asked_at m.register Applies) w
During Posting shape m w = IsUnder shape m.change m.register.looked m.asked.looked_at w × OnPost shape m.change (asked_at m.register Posts) w
During Closing shape m w = OnUnlocks shape m.change m.register.looked m.asked.looked_at w

-- the sets over the change, the register and who was asked
abbrev pub HasSets : TransactionProgress → Work → Type 0
HasSets m w = AreSets (area_for m.change) m.asked.lock_asked m.asked.locked_on m.register.pre m.register.done m.register.post m.register.begun w

-- the lines of a work, the walk's among them, show how far its transaction is
pub record Tells (p : Plan) (w : Work) (m : TransactionProgress) : Type 0 where
  pub shape_is : m.register.shape ≡ p.shape
  pub sets : HasSets m w
  pub alone : IsAlone p.shape.n (object_of m.change) (area_for m.change) w
  pub during : During m.stage p.shape m w
