-- A request that the actor's register allows.
use Rattle.std.specs.Prelude.{◌<◌, ◌≤◌, Bool, List, ◌∷◌, length}
use Rattle.afr_base.specs.declared.ids.ActorId.{ActorId}
use Rattle.afr_base.specs.declared.ids.BrickId.{BrickId}
use Rattle.afr_lines.specs.declared.answer.Told.{Told}
use Rattle.afr_lines.specs.declared.line.Line.{Line}
use Rattle.afr_lines.specs.declared.line.Line.TheVariants.{Ask}
use Rattle.afr_lines.specs.declared.request.Request.{Request}
use Rattle.afr_model.specs.Honest.{Honest, IsHonest}
use Rattle.afr_plan.specs.declared.plan.Plan.{Plan}
use Rattle.afr_model_moves.specs.Ranges.{InRange}
use Rattle.afr_discipline.specs.Notes.{noted_ask}
use Rattle.afr_discipline.specs.Stands.{HasFive}
use Rattle.afr_discipline.specs.declared.register.Register.{Register}
use Rattle.afr_discipline.specs.Free.{AllowsAsk}
use Rattle.afr_law_next.specs.Turn.{InForce}
use Rattle.afr_law.specs.Exactly.{IsLawfulExactly}
use Rattle.afr_law.specs.ModelNext.{MayAskNext, asking}
use Rattle.afr_law_next.specs.Standing.{AllStand}

-- a request that the register in force allows, and whose numbers fit, may be asked next
abbrev pub AllowedMayBeAsked : Type 0
AllowedMayBeAsked =
    (p : Plan) (log : List Line) (a : ActorId) (b : BrickId) (request : Request) (r : Register) → p.shape.n ≤ 5 → HasFive r → InForce p.shape a.0 log (asking a b request) r
    → AllowsAsk r b request → b.0 < 5 → InRange (asking a b request) → MayAskNext p a b request log

-- whatever is told of it, the register that notes the answer stands, and so do those of all other actors
abbrev pub AskedIsNoted : Type 0
AskedIsNoted =
    (p : Plan) (log : List Line) (a : ActorId) (b : BrickId) (request : Request) (r : Register) (told : Told) (took : Bool) → p.shape.n ≤ 5 → HasFive r → InForce p.shape a.0 log (asking a b request) r
    → AllowsAsk r b request → b.0 < 5 → AllStand p.shape a (Ask a b request told took) log (noted_ask r (length log) b.0 request told)

-- a request that may be asked next keeps the discipline with its honest answer
abbrev pub AnsweredIsLawful : Type 0
AnsweredIsLawful =
    (p : Plan) (log : List Line) (a : ActorId) (b : BrickId) (request : Request) (told : Told) (took : Bool) → p.shape.n ≤ 5 → length log < 4000000 → Honest p log → IsLawfulExactly p log
    → MayAskNext p a b request log → IsHonest p (Ask a b request told took) log → IsLawfulExactly p (Ask a b request told took ∷ log)
