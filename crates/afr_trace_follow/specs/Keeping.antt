-- What a line keeps to, by where its work stands.
use Rattle.std.specs.Prelude.{◌≡◌, ℕ, Bool, true, List, Some, slice_get}
use Rattle.afr_base.specs.declared.ids.Gfid.{Gfid}
use Rattle.afr_base.specs.declared.ids.NameId.{NameId}
use Rattle.afr_lines.specs.declared.line.Line.{Line}
use Rattle.afr_lines.specs.declared.line.Line.TheVariants.{Ask, Begin, HealBegin, HealEnd}
use Rattle.afr_lines.specs.declared.request.Request.TheVariants.{ReadName}
use Rattle.afr_model.specs.Commands.{change_named, steps_of}
use Rattle.afr_model.specs.Showing.{At, Path}
use Rattle.afr_object.specs.declared.change.Change.{Change}
use Rattle.afr_object.specs.declared.entry.Entry.{Entry}
use Rattle.afr_plan.specs.declared.command.Command.{Command}

-- the name is the next one of these, asked in the directory where the path stands
pub record IsNextOf (path : Path) (names : List NameId) (g : Gfid) (name : NameId) : Type 0 where
  pub read : ℕ
  pub object : Entry
  pub stands : path ≡ At read object
  pub asked : object.gfid ≡ g
  pub next : slice_get names read ≡ Some name

-- the change is what the command's words name, on the object that the place is
pub record IsNamedAt (place : Path) (c : Command) (at : ℕ) (change : Change) : Type 0 where
  pub object : Entry
  pub led : place ≡ At (steps_of c) object
  pub named : change_named object.gfid at c ≡ Some change

-- a line reads the next name, begins what it may begin, or does neither
abbrev pub KeepsBy : Path → List NameId → Bool → Line → Type 0
KeepsBy path names begins (Ask a b (ReadName g name) told took) = IsNextOf path names g name
KeepsBy path names begins (Begin a change) = begins ≡ true
KeepsBy path names begins (HealBegin a g kind) = ⊥
KeepsBy path names begins (HealEnd a g kind reply) = ⊥
KeepsBy path names begins line = Unit {0}
