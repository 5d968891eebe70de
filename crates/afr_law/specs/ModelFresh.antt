-- The third law in the words of the model.
use Rattle.std.specs.Prelude.{◌≡◌, ◌⊎◌, ℕ, ◌<◌, ◌≤◌, Bool, true, List, [], ◌∷◌, length, Some}
use Rattle.afr_base.specs.Bricks.{member}
use Rattle.afr_base.specs.Majority.{is_majority}
use Rattle.afr_base.specs.declared.ids.Gfid.{Gfid}
use Rattle.afr_base.specs.declared.ids.Kind.{Kind}
use Rattle.afr_base.specs.declared.ids.Kind.TheVariants.{Bytes, Attrs, Names}
use Rattle.afr_base.specs.Keeping.{keeps}
use Rattle.afr_choice.specs.Verdict.{good_copies}
use Rattle.afr_lines.specs.Log.{EachLine, before, from_oldest}
use Rattle.afr_lines.specs.Work.{Work, work}
use Rattle.afr_lines.specs.declared.answer.Told.{Told}
use Rattle.afr_lines.specs.declared.answer.Told.TheVariants.{Given}
use Rattle.afr_lines.specs.declared.line.Line.{Line}
use Rattle.afr_lines.specs.declared.line.Line.TheVariants.{Ask}
use Rattle.afr_lines.specs.declared.request.Request.TheVariants as request
use Rattle.afr_plan.specs.declared.plan.Plan.{Plan}
use Rattle.afr_model.specs.Attempts.{IsNoOlder}
use Rattle.afr_model.specs.Cells.{Cell, object_of_cell, kind_of_cell}
use Rattle.afr_model.specs.Honest.{Honest}
use Rattle.afr_model.specs.Safe.{IsFresh, names_cell}
use Rattle.afr_model.specs.Showing.{looked_by}
use Rattle.afr_law.specs.Exactly.{IsLawfulExactly}
use Rattle.afr_law.specs.FreshReads.{ShowsNoMiss}
use Rattle.afr_model_moves.specs.Lines.{ask_by}
use Rattle.afr_law.specs.ModelLaw.{IsLawful}

-- ---- looks from any position on
-- actor a looked at brick x, from this position on, and saw nothing against brick b
pub record IsClearLook (log : List Line) (a since x : ℕ) (g : Gfid) (kind : Kind) (b : ℕ) : Type 0 where
  pub position : ℕ
  pub told : Told
  pub took : Bool
  pub line : from_oldest position log ≡ Some (ask_by a x (request.Look g) told took)
  pub after : since ≤ position
  pub clear : ShowsNoMiss kind b told

-- such looks at a majority let actor a read the copy of brick b
pub record IsLetBy (p : Plan) (log : List Line) (a since : ℕ) (g : Gfid) (kind : Kind) (b : ℕ) : Type 0 where
  pub copy : keeps p.shape kind b ≡ true
  pub among : List ℕ
  pub majority : is_majority p.shape.n among ≡ true
  pub looks : (x : ℕ) → x < p.shape.n → member among x ≡ true → IsClearLook log a since x g kind b

-- a read line that was given something showed, in each cell that its actor's looks let it read, a value no older than what was acknowledged before those looks
abbrev pub IsFreshSince : Plan → Line → List Line → Type 0
IsFreshSince p (Ask a b r Given took) older =
    (since : ℕ) (cell : Cell) → names_cell r cell ≡ true → IsLetBy p older a.0 since (object_of_cell cell) (kind_of_cell cell) b.0 → IsNoOlder p older (before since older) b.0 cell
IsFreshSince p line older = Unit {0}

-- every read of an honest and lawful log is fresh since its looks
abbrev pub ModelReadsAreFresh : Type 0
ModelReadsAreFresh = (p : Plan) (log : List Line) → p.shape.n ≤ 5 → Honest p log → IsLawful p log → EachLine (IsFreshSince p) log

-- ---- the last looks of a work
-- a majority answered the last looks at the object among these lines, and brick b is a good copy by them
pub record IsLet (p : Plan) (b : ℕ) (g : Gfid) (kind : Kind) (w : Work) : Type 0 where
  pub answered : is_majority p.shape.n (looked_by g w).reached ≡ true
  pub good : member (good_copies p.shape (looked_by g w) kind) b ≡ true

-- one of these lines
abbrev pub IsOneOfLines : Line × List Line → Work → Type 0
IsOneOfLines x [] = ⊥
IsOneOfLines x (y ∷ w) = (x ≡ y) ⊎ IsOneOfLines x w

-- the last looks among some lines of a work let brick b be read
pub record IsLetBySome (p : Plan) (b : ℕ) (g : Gfid) (kind : Kind) (w : Work) : Type 0 where
  pub some : Work
  pub are : (x : Line × List Line) → IsOneOfLines x some → IsOneOfLines x w
  pub lets : IsLet p b g kind some

-- the last looks among some lines of its work, or of all of it, let a read line read what it names
abbrev pub IsLetRead : Plan → Line → List Line → Type 0
IsLetRead p (Ask a b (request.ReadBytes g at len) told took) older = IsLetBySome p b.0 g Bytes (work a.0 older)
IsLetRead p (Ask a b (request.ReadName g name) told took) older = IsLetBySome p b.0 g Names (work a.0 older)
IsLetRead p (Ask a b (request.List g) told took) older = IsLetBySome p b.0 g Names (work a.0 older)
IsLetRead p (Ask a b (request.ReadAttr g key) told took) older = IsLetBySome p b.0 g Attrs (work a.0 older)
IsLetRead p line older = Unit {0}

-- where the looks of its work let it, a read is fresh
abbrev pub IsFreshByLooks : Plan → Line → List Line → Type 0
IsFreshByLooks p line older = IsLetRead p line older → IsFresh p line older

-- so it is with every line of an honest and lawful log
abbrev pub ModelWorksReadFresh : Type 0
ModelWorksReadFresh = (p : Plan) (log : List Line) → p.shape.n ≤ 5 → Honest p log → IsLawful p log → EachLine (IsFreshByLooks p) log

-- and of an honest log of at most 4,000,000 lines that keeps the discipline in full
abbrev pub ModelExactReadsFresh : Type 0
ModelExactReadsFresh = (p : Plan) (log : List Line) → p.shape.n ≤ 5 → length log ≤ 4000000 → Honest p log → IsLawfulExactly p log → EachLine (IsFreshSince p) log × EachLine (IsFreshByLooks p) log
