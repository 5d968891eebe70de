-- The lists that the healers' present rounds were given.
use Rattle.std.specs.Prelude.{◌≡◌, ℕ, ◌+◌, List, Option, Some, None, length, slice_get}
use Rattle.afr_base.specs.declared.ids.BrickId.{BrickId}
use Rattle.afr_base.specs.declared.ids.Gfid.{Gfid}
use Rattle.afr_base.specs.declared.ids.What.{What}
use Rattle.afr_lines.specs.Work.{work}
use Rattle.afr_lines.specs.declared.answer.Told.TheVariants.{Given}
use Rattle.afr_lines.specs.declared.line.Line.{Line}
use Rattle.afr_lines.specs.declared.line.Line.TheVariants.{Ask}
use Rattle.afr_lines.specs.declared.request.Request.TheVariants.{Index}
use Rattle.afr_plan.specs.declared.plan.Plan.{Plan}
use Rattle.afr_trace_follow.specs.Marked.{list_of}
use Rattle.afr_trace_follow.specs.declared.lists.Lists.{Lists}

-- the brick whose index a line gave
abbrev pub index_given : Line → Option BrickId
index_given (Ask a b Index Given took) = Some b
index_given line = None

-- a list is that of the present round of the healer with this number, counted from 0
abbrev pub IsGivenTo : Plan → List Line → ℕ → List (Gfid × What) → Type 0
IsGivenTo p log i list = list ≡ list_of p (work (17 + i) log)

-- three lists are kept
pub record AreGiven (p : Plan) (log : List Line) (given : List (List (Gfid × What))) : Type 0 where
  pub three : length given ≡ 3
  pub each : (i : ℕ) (list : List (Gfid × What)) → slice_get given i ≡ Some list → IsGivenTo p log i list

-- what is kept is what the log has made
pub record AreLists (p : Plan) (log : List Line) (lists : Lists) : Type 0 where
  pub given : AreGiven p log lists.given.items
