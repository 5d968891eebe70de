-- Whether the files of a brick have room for what a line makes of them.
use Rattle.std.specs.Prelude.{◌≡◌, ℕ, ◌==◌, ◌&&◌, true, List, IfSome}
use Rattle.afr_lines.specs.Log.{change_at}
use Rattle.afr_lines.specs.declared.line.Line.{Line}
use Rattle.afr_lines.specs.declared.line.Line.TheVariants.{Ask}
use Rattle.afr_lines.specs.declared.request.Request.{Request}
use Rattle.afr_lines.specs.declared.request.Request.TheVariants.{Apply, Mend}
use Rattle.afr_model.specs.Tables.{Past, carried}
use Rattle.afr_object.specs.State.{CanApply, CanRepair}
use Rattle.afr_object.specs.Tables.{Table}
use Rattle.afr_plan.specs.declared.plan.Plan.{Plan}
use Rattle.afr_trace_tables.specs.Plain.{plain_tables}

-- a write and a copied piece end within the longest file
abbrev pub CanAsk : Request → List Line → Past → Table → Type 0
CanAsk (Apply attempt) older past t = IfSome (change_at attempt older) (λ change. CanApply change t)
CanAsk (Mend repair) older past t = CanRepair repair (carried past older repair) t
CanAsk request older past t = Unit {0}

-- brick b has room for a line
abbrev pub CanTake : ℕ → Line → List Line → Past → Table → Type 0
CanTake b (Ask a y request told took) older past t = (took && (y.0 == b)) ≡ true → CanAsk request older past t
CanTake b line older past t = Unit {0}

-- every brick has
abbrev pub HasRoom : Plan → Line → List Line → Type 0
HasRoom p line older = (b : ℕ) → CanTake b line older (plain_tables p older).past ((plain_tables p older).now b)
