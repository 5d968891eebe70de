-- What each line of a work keeps to: the names along its command's path, and one change.
use Rattle.std.specs.Prelude.{◌≡◌, ℕ, false, Some, slice_get}
use Rattle.afr_base.specs.declared.ids.Gfid.{Gfid}
use Rattle.afr_base.specs.declared.ids.NameId.{NameId}
use Rattle.afr_object.specs.declared.change.Change.{Change}
use Rattle.afr_object.specs.declared.entry.Entry.{Entry}
use Rattle.afr_lines.specs.Work.{Work}
use Rattle.afr_lines.specs.declared.line.Line.{Line}
use Rattle.afr_lines.specs.declared.line.Line.TheVariants.{Ask, Begin, HealBegin, HealEnd}
use Rattle.afr_lines.specs.declared.request.Request.TheVariants.{ReadName}
use Rattle.afr_plan.specs.declared.command.Command.{Command}
use Rattle.afr_plan.specs.declared.plan.Plan.{Plan}
use Rattle.afr_model.specs.Commands.{path_of, steps_of, change_named}
use Rattle.afr_model.specs.Showing.{At, path_by, has, begins_attempt}
use Rattle.afr_model.specs.Standing.{place_by}

-- the name is the path's next one, asked in the directory where the path stands
pub record IsNextName (p : Plan) (c : Command) (g : Gfid) (name : NameId) (w : Work) : Type 0 where
  pub read : ℕ
  pub object : Entry
  pub stands : path_by p w ≡ At read object
  pub asked : object.gfid ≡ g
  pub next : slice_get (path_of c) read ≡ Some name

-- the change is what the command's words name, on the object that its path leads to
pub record Names (p : Plan) (c : Command) (w : Work) (at : ℕ) (change : Change) : Type 0 where
  pub object : Entry
  pub led : place_by p c w ≡ At (steps_of c) object
  pub named : change_named object.gfid at c ≡ Some change

-- a line of a work keeps to the command: names are read along its path, and one change is begun
abbrev pub KeepsTo : Plan → Command → Line → ℕ → Work → Type 0
KeepsTo p c (Ask a b (ReadName g name) told took) at w = IsNextName p c g name w
KeepsTo p c (Begin a change) at w = (has begins_attempt w ≡ false) × Names p c w at change
KeepsTo p c (HealBegin a g kind) at w = ⊥
KeepsTo p c (HealEnd a g kind reply) at w = ⊥
KeepsTo p c line at w = Unit {0}
