-- A brick's index lists at most as many objects as there ever can be.
use Rattle.std.specs.Prelude.{◌≡◌, ◌≤◌, List, None, length}
use Rattle.afr_base.specs.declared.ids.BrickId.{BrickId}
use Rattle.afr_law_bound.specs.Ends.Cost.{objects_of}
use Rattle.afr_law_names.specs.Descent.Descent.{IsOfPlan}
use Rattle.afr_law.specs.ModelKinds.{WasTable}
use Rattle.afr_lines.specs.Log.{EachLine}
use Rattle.afr_lines.specs.Told.{told_by}
use Rattle.afr_lines.specs.declared.answer.Answer.{Answer}
use Rattle.afr_lines.specs.declared.answer.Told.TheVariants.{Given}
use Rattle.afr_lines.specs.declared.line.Line.TheVariants.{Ask}
use Rattle.afr_lines.specs.declared.line.Line.{Line}
use Rattle.afr_lines.specs.declared.request.Request.TheVariants.{Index}
use Rattle.afr_model.specs.Honest.{answer_by}
use Rattle.afr_model.specs.Tables.{holds}
use Rattle.afr_object.specs.Indexed.{index_of}
use Rattle.afr_object.specs.Tables.{Table}
use Rattle.afr_plan.specs.declared.plan.Plan.{Plan}
use Rattle.afr_law_cost.specs.Round.Left.{Lists}

-- the index of each table that stood lists at most as many objects as there can be: the root, the opening files, and those that commands make
abbrev pub IndexesAreShort : Type 0
IndexesAreShort = (p : Plan) (log : List Line) → IsOfPlan p log → (t : Table) → WasTable p log t → length (index_of t) ≤ objects_of p

-- where a line asks a brick for its index, what the brick then lists is no longer than that
abbrev pub AsksShortIndex : Plan → Line → List Line → Type 0
AsksShortIndex p (Ask a b Index told took) older = length (index_of (holds p older b.0)) ≤ objects_of p
AsksShortIndex p line older = Unit {0}

-- so it is for each line of the log
abbrev pub AskedIndexesAreShort : Type 0
AskedIndexesAreShort = (p : Plan) (log : List Line) → IsOfPlan p log → EachLine (AsksShortIndex p) log

-- and for the next line: an honest answer to a request for a brick's index lists no more
abbrev pub NextIndexIsShort : Type 0
NextIndexIsShort = (p : Plan) (log : List Line) (b : BrickId) (heard : Answer) → IsOfPlan p log → (told_by heard ≡ Given → heard ≡ answer_by None Index (holds p log b.0) log) → Lists (objects_of p) heard
