-- What one line more leaves of all registers.
use Rattle.std.specs.Prelude.{◌≡◌, ℕ, List, ◌∷◌}
use Rattle.afr_base.specs.declared.ids.ActorId.{ActorId}
use Rattle.afr_base.specs.declared.ids.Shape.{Shape}
use Rattle.afr_lines.specs.declared.line.Line.{Line}
use Rattle.afr_plan.specs.declared.plan.Plan.{Plan}
use Rattle.afr_discipline.specs.declared.register.Register.{Register}
use Rattle.afr_law_next.specs.Turn.{Stood}
use Rattle.afr_law.specs.Exactly.{IsLawfulExactly}
use Rattle.afr_law.specs.ModelNext.{IsNext}

-- after the line of actor a, this register stands for its lines, and the registers of all other actors stand as they were
pub record AllStand (shape : Shape) (a : ActorId) (line : Line) (log : List Line) (r : Register) : Type 0 where
  pub own : Stood shape a.0 (line ∷ log) r
  pub others : (c : ℕ) (q : Register) → (a.0 ≡ c → ⊥) → Stood shape c log q → Stood shape c (line ∷ log) q

-- the line of actor a comes next: a log that keeps the discipline in full keeps it with this line, and all registers stand
pub record ComesNext (p : Plan) (a : ActorId) (line : Line) (log : List Line) (r : Register) : Type 0 where
  pub next : IsNext p line log
  pub lawful : IsLawfulExactly p log → IsLawfulExactly p (line ∷ log)
  pub stand : AllStand p.shape a line log r
