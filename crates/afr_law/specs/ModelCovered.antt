-- Whoever changes a brick holds the lock that covers the change there.
use Rattle.std.specs.Prelude.{◌≡◌, ◌<◌, ◌≤◌, true, List, length, Option, None}
use Rattle.afr_base.specs.declared.ids.ActorId.{ActorId}
use Rattle.afr_base.specs.declared.ids.BrickId.{BrickId}
use Rattle.afr_lines.specs.Log.{change_at}
use Rattle.afr_lines.specs.declared.answer.Told.{Told}
use Rattle.afr_lines.specs.declared.line.Line.{Line}
use Rattle.afr_lines.specs.declared.line.Line.TheVariants.{Ask}
use Rattle.afr_lines.specs.declared.request.Request.{Request}
use Rattle.afr_lines.specs.declared.request.Request.TheVariants.{Apply, Lock}
use Rattle.afr_model.specs.Honest.{Honest, IsHonest}
use Rattle.afr_model.specs.Locks.{locks_held}
use Rattle.afr_lines.specs.declared.request.Area.{Area}
use Rattle.afr_model_moves.specs.Covering.{HasItsLocks, HasNumber}
use Rattle.afr_object.specs.declared.change.Change.{Change}
use Rattle.afr_plan.specs.declared.plan.Plan.{Plan}
use Rattle.afr_lines.specs.declared.lock.Domain.{Domain}
use Rattle.afr_law.specs.Exactly.{IsLawfulExactly}
use Rattle.afr_law.specs.ModelNext.{IsNext, MayAskNext, is_carried_out}

-- the change that a request carries out: that of an Apply's attempt
abbrev pub change_for : Request → List Line → Option Change
change_for (Apply attempt) log = change_at attempt log
change_for request log = None

-- where the next line's brick carries a change out, its actor holds the locks for it there
abbrev pub ModelNextCovered : Type 0
ModelNextCovered =
    (p : Plan) (log : List Line) (a : ActorId) (b : BrickId) (request : Request) (told : Told) → p.shape.n ≤ 5 → length log < 4000000 → Honest p log → IsLawfulExactly p log
    → IsHonest p (Ask a b request told true) log → IsNext p (Ask a b request told true) log → HasItsLocks (locks_held b.0 log) a request (change_for request log)

-- and so it is before anybody knows what the line tells
abbrev pub ModelCarriedCovered : Type 0
ModelCarriedCovered =
    (p : Plan) (log : List Line) (a : ActorId) (b : BrickId) (request : Request) → p.shape.n ≤ 5 → length log < 4000000 → Honest p log → IsLawfulExactly p log
    → MayAskNext p a b request log → is_carried_out p a b request log ≡ true → HasItsLocks (locks_held b.0 log) a request (change_for request log)

-- a range that may be locked next has a number in it
abbrev pub ModelNextLocks : Type 0
ModelNextLocks = (p : Plan) (log : List Line) (a : ActorId) (b : BrickId) (domain : Domain) (area : Area) → IsLawfulExactly p log → MayAskNext p a b (Lock domain area) log → HasNumber area
