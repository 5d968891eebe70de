-- A gfid names objects of one kind: all its copies, on every brick and at every moment, and all entries that lead to it.
use Rattle.std.specs.Prelude.{◌≡◌, ℕ, ◌<◌, ◌≤◌, Bool, List, length, Some}
use Rattle.afr_base.specs.declared.ids.ActorId.{ActorId}
use Rattle.afr_base.specs.declared.ids.BrickId.{BrickId}
use Rattle.afr_base.specs.declared.ids.Gfid.{Gfid}
use Rattle.afr_base.specs.declared.ids.NameId.{NameId}
use Rattle.afr_base.specs.declared.ids.What.{What}
use Rattle.afr_base.specs.declared.ids.What.TheVariants.{Dir}
use Rattle.afr_lines.specs.declared.answer.Told.TheVariants.{Seen}
use Rattle.afr_lines.specs.declared.line.Line.{Line}
use Rattle.afr_lines.specs.declared.line.Line.TheVariants.{Ask}
use Rattle.afr_lines.specs.declared.request.Request.TheVariants.{Look}
use Rattle.afr_model.specs.Honest.{Honest, IsHonest}
use Rattle.afr_model.specs.Tables.{entry_at, held_before, holds}
use Rattle.afr_object.specs.Tables.{Table, copy_at, root}
use Rattle.afr_object.specs.declared.entry.Entry.{Entry}
use Rattle.afr_object.specs.declared.entry.View.{View}
use Rattle.afr_object.specs.Object.{Object}
use Rattle.afr_plan.specs.declared.plan.Plan.{Plan}
use Rattle.afr_law.specs.Exactly.{IsLawfulExactly}

-- these are the tables of a brick after the log, or were before one of its lines
pub data WasTable (p : Plan) (log : List Line) (t : Table) : Type 0 where
  Now : (b : ℕ) → t ≡ holds p log b → WasTable p log t
  Before : (k b : ℕ) → k < length log → t ≡ held_before p log k b → WasTable p log t

-- copies of a gfid and entries that lead to it say the same kind; the root is a directory
pub record IsOneKind (p : Plan) (log : List Line) : Type 0 where
  pub copies : (t u : Table) → WasTable p log t → WasTable p log u → (g : Gfid) (o q : Object) → copy_at g t ≡ Some o → copy_at g u ≡ Some q → o.what ≡ q.what
  pub entries : (t u : Table) → WasTable p log t → WasTable p log u → (dir : Gfid) (name : NameId) (e : Entry) (o : Object) → entry_at dir name t ≡ Some e → copy_at e.gfid u ≡ Some o → o.what ≡ e.what
  pub names : (t u : Table) → WasTable p log t → WasTable p log u → (dir other : Gfid) (name also : NameId) (e f : Entry) → entry_at dir name t ≡ Some e → entry_at other also u ≡ Some f → e.gfid ≡ f.gfid → e.what ≡ f.what
  pub top : (t : Table) → WasTable p log t → (o : Object) → copy_at root t ≡ Some o → o.what ≡ Dir

-- so it is after an honest log that keeps the discipline in full
abbrev pub ModelOneKind : Type 0
ModelOneKind = (p : Plan) (log : List Line) → p.shape.n ≤ 5 → length log ≤ 4000000 → Honest p log → IsLawfulExactly p log → IsOneKind p log

-- an entry of the gfid that stood somewhere says this kind; the root is a directory
pub data SaysKind (p : Plan) (log : List Line) (g : Gfid) (what : What) : Type 0 where
  Named : (t : Table) (dir : Gfid) (name : NameId) → WasTable p log t → entry_at dir name t ≡ Some (record { gfid = g; what = what }) → SaysKind p log g what
  Top : g ≡ root → what ≡ Dir → SaysKind p log g what

-- what the next look at an object shows is of the kind that its entry says, whenever and wherever that stood
abbrev pub ModelNextLooks : Type 0
ModelNextLooks =
    (p : Plan) (log : List Line) (a : ActorId) (b : BrickId) (g : Gfid) (what : What) (view : View) (took : Bool) → p.shape.n ≤ 5 → length log ≤ 4000000 → Honest p log → IsLawfulExactly p log
    → SaysKind p log g what → IsHonest p (Ask a b (Look g) (Seen view) took) log → view.what ≡ what
