-- A line that may come next after a log, and a request that may be asked next, before anybody knows what it is told.
use Rattle.std.specs.Prelude.{◌<◌, ◌≤◌, Bool, false, List, length}
use Rattle.afr_base.specs.declared.ids.ActorId.{ActorId}
use Rattle.afr_base.specs.declared.ids.BrickId.{BrickId}
use Rattle.afr_lines.specs.declared.line.Line.{Line}
use Rattle.afr_lines.specs.declared.line.Line.TheVariants.{Ask}
use Rattle.afr_lines.specs.declared.request.Request.{Request}
use Rattle.afr_model.specs.Honest.{Honest, IsHonest, outcome_of}
use Rattle.afr_plan.specs.declared.plan.Plan.{Plan}
use Rattle.afr_law.specs.Beginning.{start_of}
use Rattle.afr_law_tables.specs.Codes.{kept_by}
use Rattle.afr_model_moves.specs.ByList.{IsExactLine, MayExactlyNext}
use Rattle.afr_model_moves.specs.Ranges.{InRange}
use Rattle.afr_law.specs.Exactly.{IsLawfulExactly, name_bound}
use Rattle.afr_model_moves.specs.Positions.{by_position}
pub use Rattle.afr_model.specs.Honest.{asking}

-- the line keeps the discipline in full after these
abbrev pub IsNext : Plan → Line → List Line → Type 0
IsNext p line log = IsExactLine p.shape.n (start_of p (name_bound p)) line log

-- the numbers of the request lie in range, and the discipline allows it next
abbrev pub MayAskNext : Plan → ActorId → BrickId → Request → List Line → Type 0
MayAskNext p a b request log = InRange (asking a b request) × MayExactlyNext p.shape.n (kept_by p) (by_position log) (length log) (asking a b request)

-- whether the brick would carry the request out next: the session is live then, and the plan doesn't refuse it
abbrev pub is_carried_out : Plan → ActorId → BrickId → Request → List Line → Bool
is_carried_out p a b request log = (outcome_of p a b.0 request (asking a b request) log).took

-- the line that asks for it, told what its brick then gives
abbrev pub answered : Plan → ActorId → BrickId → Request → List Line → Line
answered p a b request log = Ask a b request (outcome_of p a b.0 request (asking a b request) log).told (is_carried_out p a b request log)

-- after an honest log that keeps the discipline in full, a request that may be asked next makes an honest line that may come next: its answer lies in the ranges of its types too
abbrev pub ModelNextAnswered : Type 0
ModelNextAnswered =
    (p : Plan) (log : List Line) (a : ActorId) (b : BrickId) (request : Request) → p.shape.n ≤ 5 → length log < 4000000 → Honest p log → IsLawfulExactly p log
    → MayAskNext p a b request log → IsHonest p (answered p a b request log) log × IsNext p (answered p a b request log) log
