-- What a removal keeps at every moment, whatever its bricks answer.
use Rattle.std.specs.Prelude.{◌⊎◌, ◌≡◌, ℕ, Bool, true, false, List, [], Option, Some, None}
use Rattle.afr_base.specs.Bricks.{is_nothing, member, IsIn, IsWithin}
use Rattle.afr_base.specs.declared.ids.Kind.TheVariants.{Names}
use Rattle.afr_object.specs.declared.change.Change.{Change}
use Rattle.afr_object.specs.declared.change.Change.TheVariants.{Remove}
use Rattle.afr_choice.specs.Verdict.{holders_of}
use Rattle.afr_lines.specs.Areas.{area_for}
use Rattle.afr_lines.specs.declared.request.Area.{Area}
use Rattle.afr_discipline.specs.declared.register.Register.{Register}
use Rattle.afr_client_transaction.specs.Progress.{enough, may_start}
use Rattle.afr_client_transaction.specs.Sound.{Base, HasBegun, Shown}
use Rattle.afr_client_entry.specs.Removals.Removal.{Removing, left, sources, whole}
use Rattle.afr_client_entry.specs.declared.removing.stage.RemovalStage.{RemovalStage}
use Rattle.afr_client_entry.specs.declared.removing.stage.RemovalStage.TheVariants.{Locking, Looking, Listing, Beginning, Preparing, Applying, Posting, Closing}

-- the change removes a name
abbrev pub IsRemoval : Change → Type 0
IsRemoval (Remove dir name what) = Unit {0}
IsRemoval other = ⊥

-- the facts of a transaction, but for its second area
abbrev pub IsBase : Change → Register → Type 0
IsBase change r = Base change r.shape.n r.inside None [] r.healing r.held r.looked r.pre r.done r.area r.upto

-- the area is the name's, and the second the whole child, or none yet
pub record Areas (change : Change) (child : Area) (n : ℕ) (area second : Option Area) (second_held : List ℕ) : Type 0 where
  pub named : area ≡ Some (area_for change)
  pub within : IsWithin n second_held
  pub second_is : ((second ≡ None) × (second_held ≡ [])) ⊎ (second ≡ Some child)

-- the same over the register
abbrev pub HasAreas : Change → Area → Register → Type 0
HasAreas change child r = Areas change child r.shape.n r.area r.second r.second_held

-- no attempt and no unlock yet
pub record Unbegun (begun : Option ℕ) (unlocked : Bool) : Type 0 where
  pub first : begun ≡ None
  pub open_still : unlocked ≡ false

-- the same over the register
abbrev pub IsUnbegun : Register → Type 0
IsUnbegun r = Unbegun r.begun r.unlocked

-- holders of the directory take part in the attempt, and some do
pub record AreTakers (takers holders : List ℕ) : Type 0 where
  pub among : IsIn takers holders
  pub some : is_nothing takers ≡ false

-- the same of a whole removal
abbrev pub HasTakers : Removing → Type 0
HasTakers m = AreTakers m.child.takers (holders_of m.register.looked)

-- what is known at each stage
abbrev pub During : RemovalStage → Removing → Type 0
During Locking m = IsUnbegun m.register × (m.child.look_asked ≡ [])
During Looking m = IsUnbegun m.register
During Listing m = IsUnbegun m.register × HasTakers m × (member (sources m) m.child.reader.0 ≡ true)
During Beginning m = (may_start m.register m.change ≡ true) × HasTakers m
During Preparing m = HasBegun 2 m.change m.register × HasTakers m
During Applying m = HasBegun 3 m.change m.register × (enough m.register Names m.register.pre ≡ true)
During Posting m = HasBegun 4 m.change m.register × (enough m.register Names m.register.done ≡ true)
During (Closing why) m = Unit {0}

-- somebody is left to ask
abbrev pub Ready : RemovalStage → Removing → Type 0
Ready Listing m = Unit {0}
Ready Beginning m = Unit {0}
Ready (Closing why) m = Unit {0}
Ready stage m = is_nothing (left stage m) ≡ false

-- the next line is a request
abbrev pub IsAsking : RemovalStage → Removing → Type 0
IsAsking Listing m = Unit {0}
IsAsking Beginning m = ⊥
IsAsking stage m = is_nothing (left stage m) ≡ false

-- what a removal keeps at every moment
pub record Sound (m : Removing) : Type 0 where
  pub removes : IsRemoval m.change
  pub base : IsBase m.change m.register
  pub areas : HasAreas m.change (whole m.child) m.register
  pub child : Shown m.register.shape.n m.child.looked
  pub during : During m.stage m
  pub ready : Ready m.stage m
