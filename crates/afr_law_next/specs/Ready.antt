-- What a brick needs before it carries a request out.
use Rattle.std.specs.Prelude.{◌≡◌, ◌<◌, ◌≤◌, true, List, length}
use Rattle.afr_base.specs.declared.ids.ActorId.{ActorId}
use Rattle.afr_base.specs.declared.ids.BrickId.{BrickId}
use Rattle.afr_lines.specs.declared.line.Line.{Line}
use Rattle.afr_lines.specs.declared.request.Area.{Area}
use Rattle.afr_lines.specs.declared.request.Request.{Request}
use Rattle.afr_lines.specs.declared.request.Request.TheVariants.{Lock}
use Rattle.afr_lines.specs.declared.lock.Domain.{Domain}
use Rattle.afr_model.specs.Honest.{Honest}
use Rattle.afr_model.specs.Locks.{locks_held}
use Rattle.afr_plan.specs.declared.plan.Plan.{Plan}
use Rattle.afr_model_moves.specs.Covering.{HasItsLocks, HasNumber}
use Rattle.afr_law_tables.specs.Carrying.{CanCarry}
use Rattle.afr_law.specs.Exactly.{IsLawfulExactly}
use Rattle.afr_law.specs.ModelCovered.{change_for}
use Rattle.afr_law.specs.ModelFits.{HasCopy}
use Rattle.afr_law.specs.ModelNext.{MayAskNext, is_carried_out}

-- what is carried out can be, and its actor holds the locks for it; a request that changes a copy finds one; a range to be locked has a number
pub record IsReady (p : Plan) (a : ActorId) (b : BrickId) (request : Request) (log : List Line) : Type 0 where
  pub carries : is_carried_out p a b request log ≡ true → CanCarry p log b.0 request
  pub found : HasCopy p log b.0 request
  pub covered : is_carried_out p a b request log ≡ true → HasItsLocks (locks_held b.0 log) a request (change_for request log)
  pub locks : (domain : Domain) (area : Area) → request ≡ Lock domain area → HasNumber area

-- the brick is ready for a request that may be asked next
abbrev pub NextIsReady : Type 0
NextIsReady =
    (p : Plan) (log : List Line) (a : ActorId) (b : BrickId) (request : Request) → p.shape.n ≤ 5 → length log < 4000000 → Honest p log → IsLawfulExactly p log
    → MayAskNext p a b request log → IsReady p a b request log
