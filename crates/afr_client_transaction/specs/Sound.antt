-- What a transaction keeps at every moment, whatever its bricks answer.
use Rattle.std.specs.Prelude.{◌⊎◌, ◌≡◌, ℕ, ◌≤◌, Bool, true, false, List, [], Option, Some, None, length, is_some}
use Rattle.afr_base.specs.Bricks.{member, is_nothing, IsIn, IsWithin}
use Rattle.afr_base.specs.Majority.{is_majority}
use Rattle.afr_base.specs.declared.ids.Shape.{Shape}
use Rattle.afr_object.specs.declared.change.Change.{Change}
use Rattle.afr_choice.specs.Verdict.{good_copies, holders_of}
use Rattle.afr_choice.specs.Looks.{view_at}
use Rattle.afr_choice.specs.declared.looked.Looked.{Looked}
use Rattle.afr_lines.specs.Areas.{area_for, kind_for}
use Rattle.afr_lines.specs.declared.request.Area.{Area}
use Rattle.afr_model_moves.specs.Register.{area_kind, rank}
use Rattle.afr_discipline.specs.Stands.{no_lines, step_of}
use Rattle.afr_discipline.specs.Tests.{is_valid}
use Rattle.afr_discipline.specs.declared.register.Register.{Register}
use Rattle.afr_discipline.specs.declared.register.Step.{Step}
use Rattle.afr_discipline.specs.declared.register.Step.TheVariants as step
use Rattle.afr_client_transaction.specs.declared.stage.Stage.{Stage}
use Rattle.afr_client_transaction.specs.declared.stage.Stage.TheVariants.{Locking, Looking, Beginning, Preparing, Applying, Posting, Closing}
use Rattle.afr_client_transaction.specs.Progress.{TransactionProgress, left, enough, may_start}

-- a change whose area is one, of its kind
pub record Suits (change : Change) : Type 0 where
  pub valid : is_valid (area_for change) ≡ true
  pub kind : area_kind (area_for change) ≡ kind_for change

-- the work has no line yet, or only looks and reads without a lock, which leave nothing but that they were
abbrev pub IsUnused : Register → Type 0
IsUnused r = (r ≡ no_lines r.shape) ⊎ (r ≡ record (no_lines r.shape) { step = step.Open })

-- what the bricks showed: five places, of bricks below n that were reached
pub record Shown (n : ℕ) (looked : Looked) : Type 0 where
  pub five : length looked.views ≡ 5
  pub reached : IsWithin n looked.reached
  pub seen : (b : ℕ) → is_some (view_at b looked) ≡ true → member looked.reached b ≡ true

-- the facts of all stages, over the fields that they use
pub record Base (change : Change) (n : ℕ) (inside : Bool) (second : Option Area) (second_held healing held : List ℕ) (looked : Looked) (pre done : List ℕ) (area : Option Area) (upto : ℕ) : Type 0 where
  pub few : n ≤ 5
  pub outside : inside ≡ false
  pub no_second : second ≡ None
  pub none_second : second_held ≡ []
  pub none_healing : healing ≡ []
  pub held_within : IsWithin n held
  pub shown : Shown n looked
  pub pre_within : IsWithin n pre
  pub done_within : IsWithin n done
  pub no_bytes : upto ≡ 0
  pub of_held : is_nothing held ≡ false → area ≡ Some (area_for change)

-- the same over the change and the register
abbrev pub IsBase : Change → Register → Type 0
IsBase change r = Base change r.shape.n r.inside r.second r.second_held r.healing r.held r.looked r.pre r.done r.area r.upto

-- while the locks are asked
pub record OnLocks (n : ℕ) (begun : Option ℕ) (unlocked : Bool) (held locked granted : List ℕ) : Type 0 where
  pub first : begun ≡ None
  pub open_still : unlocked ≡ false
  pub same : (b : ℕ) → member held b ≡ member granted b
  pub among : IsIn granted locked
  pub within : IsWithin n granted

-- while the locked bricks are looked at
pub record OnLooks (n : ℕ) (area : Option Area) (change : Change) (granted : List ℕ) : Type 0 where
  pub named : area ≡ Some (area_for change)
  pub within : IsWithin n granted

-- an attempt was begun, and no step of rank above this was entered
pub record OnAttempt (most : ℕ) (change : Change) (begun : Option ℕ) (unlocked : Bool) (area : Option Area) (step : Step) : Type 0 where
  pub number : ℕ
  pub is_begun : begun ≡ Some number
  pub open_still : unlocked ≡ false
  pub named : area ≡ Some (area_for change)
  pub order : rank (step_of step) ≤ most

-- the same over the change and the register
abbrev pub HasBegun : ℕ → Change → Register → Type 0
HasBegun most change r = OnAttempt most change r.begun r.unlocked r.area r.step

-- what is known at each stage
abbrev pub During : Stage → TransactionProgress → Type 0
During Locking m = OnLocks m.register.shape.n m.register.begun m.register.unlocked m.register.held m.asked.lock_asked m.asked.locked_on × (m.asked.looked_at ≡ [])
During Looking m = OnLooks m.register.shape.n m.register.area m.change m.asked.locked_on
During Beginning m = (m.register.area ≡ Some (area_for m.change)) × (may_start m.register m.change ≡ true)
During Preparing m = HasBegun 2 m.change m.register
During Applying m = HasBegun 3 m.change m.register × (enough m.register (kind_for m.change) m.register.pre ≡ true)
During Posting m = HasBegun 4 m.change m.register × (enough m.register (kind_for m.change) m.register.done ≡ true)
During Closing m = Unit {0}

-- a majority was reached, a majority has a copy, and some copy is good
pub record HasQuorum (change : Change) (shape : Shape) (looked : Looked) : Type 0 where
  pub reached : is_majority shape.n looked.reached ≡ true
  pub copies : is_majority shape.n (holders_of looked) ≡ true
  pub clean : is_nothing (good_copies shape looked (kind_for change)) ≡ false

-- post-op was done nowhere before a Begin, and an attempt begins only where the views allow it
abbrev pub Posted : Stage → TransactionProgress → Type 0
Posted Preparing m = HasQuorum m.change m.register.shape m.register.looked
Posted Applying m = HasQuorum m.change m.register.shape m.register.looked
Posted Posting m = HasQuorum m.change m.register.shape m.register.looked
Posted Closing m = (m.register.post ≡ []) ⊎ HasQuorum m.change m.register.shape m.register.looked
Posted stage m = m.register.post ≡ []

-- somebody is left to ask
abbrev pub Ready : Stage → TransactionProgress → Type 0
Ready Beginning m = Unit {0}
Ready Closing m = Unit {0}
Ready stage m = is_nothing (left stage m) ≡ false

-- the next line is a request
abbrev pub IsAsking : Stage → TransactionProgress → Type 0
IsAsking Beginning m = ⊥
IsAsking stage m = is_nothing (left stage m) ≡ false

-- what a transaction keeps at every moment
pub record Sound (m : TransactionProgress) : Type 0 where
  pub suits : Suits m.change
  pub base : IsBase m.change m.register
  pub during : During m.stage m
  pub posted : Posted m.stage m
  pub ready : Ready m.stage m
