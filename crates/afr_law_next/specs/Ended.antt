-- The End line of a work that the actor's register allows.
use Rattle.std.specs.Prelude.{◌≡◌, ◌≤◌, false, List, ◌∷◌}
use Rattle.afr_base.specs.declared.ids.ActorId.{ActorId}
use Rattle.afr_lines.specs.Places.{Fresh, place_of}
use Rattle.afr_lines.specs.declared.line.Line.{Line}
use Rattle.afr_lines.specs.declared.line.Line.TheVariants.{End}
use Rattle.afr_lines.specs.declared.line.Next.TheVariants as next
use Rattle.afr_lines.specs.declared.reply.Reply.{Reply}
use Rattle.afr_plan.specs.declared.plan.Plan.{Plan}
use Rattle.afr_model_moves.specs.Ranges.{InRange}
use Rattle.afr_discipline.specs.Stands.{HasFive}
use Rattle.afr_discipline.specs.declared.register.Register.{Register}
use Rattle.afr_discipline.specs.Free.{Allows}
use Rattle.afr_law_next.specs.Turn.{InForce}
use Rattle.afr_law_next.specs.Standing.{ComesNext}

-- an End line that the register in force allows outside heals, and whose numbers fit, comes next, and the actor's next line opens a work
abbrev pub AllowedMayEnd : Type 0
AllowedMayEnd =
    (p : Plan) (log : List Line) (a : ActorId) (said : Reply) (r : Register) → p.shape.n ≤ 5 → HasFive r → InForce p.shape a.0 log (End a said) r → r.inside ≡ false
    → Allows r (next.End said) → InRange (End a said) → ComesNext p a (End a said) log r × (place_of a.0 (End a said ∷ log) ≡ Fresh)
