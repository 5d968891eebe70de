-- A heal asks for Work locks in rising order.
use Rattle.std.specs.Prelude.{◌≡◌, Bool, true, List, ◌∷◌}
use Rattle.afr_base.specs.declared.ids.ActorId.{ActorId}
use Rattle.afr_base.specs.declared.ids.BrickId.{BrickId}
use Rattle.afr_law_names.specs.Descent.Descent.{IsOfPlan}
use Rattle.afr_discipline.specs.declared.register.Register.{Register}
use Rattle.afr_lines.specs.Log.{EachLine}
use Rattle.afr_lines.specs.declared.answer.Told.{Told}
use Rattle.afr_lines.specs.declared.line.Line.TheVariants.{Ask}
use Rattle.afr_lines.specs.declared.line.Line.{Line}
use Rattle.afr_lines.specs.declared.request.Request.{Request}
use Rattle.afr_plan.specs.declared.plan.Plan.{Plan}
use Rattle.afr_law_bound.specs.Standstill.Order.{IsRisingLine, locks_at}
use Rattle.afr_law_next.specs.Turn.{InForce}

-- a request is made in a heal, by what its actor's lines show
abbrev pub IsInHeal : Plan → Line → List Line → Type 0
IsInHeal p (Ask a b request told took) older = (locks_at p a.0 (Ask a b request told took) older).heal ≡ true
IsInHeal p line older = ⊥

-- where it asks for a Work lock, that is above all that its actor holds
abbrev pub RisesInHeal : Plan → Line → List Line → Type 0
RisesInHeal p line older = IsInHeal p line older → IsRisingLine p line older

-- so it is for each line of the log
abbrev pub HealersRise : Type 0
HealersRise = (p : Plan) (log : List Line) → IsOfPlan p log → EachLine (RisesInHeal p) log

-- and for the next line, where the register in force is that of a heal
abbrev pub NextRises : Type 0
NextRises =
    (p : Plan) (log : List Line) (a : ActorId) (b : BrickId) (request : Request) (told : Told) (took : Bool) (r : Register) → IsOfPlan p (Ask a b request told took ∷ log) → InForce p.shape a.0 log (Ask a b request told took) r → r.inside ≡ true
    → IsRisingLine p (Ask a b request told took) log
