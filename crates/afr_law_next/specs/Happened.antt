-- An event is nobody's line.
use Rattle.std.specs.Prelude.{ℕ, List, ◌∷◌}
use Rattle.afr_lines.specs.declared.line.Event.{Event}
use Rattle.afr_lines.specs.declared.line.Line.{Line}
use Rattle.afr_lines.specs.declared.line.Line.TheVariants as line_of
use Rattle.afr_plan.specs.declared.plan.Plan.{Plan}
use Rattle.afr_model_moves.specs.Ranges.{EventInRange}
use Rattle.afr_discipline.specs.declared.register.Register.{Register}
use Rattle.afr_law_next.specs.Turn.{Stood}
use Rattle.afr_law.specs.Exactly.{IsLawfulExactly}
use Rattle.afr_law.specs.ModelNext.{IsNext}

-- after an event the log keeps the discipline in full, and each register stands as it was
pub record EventComes (p : Plan) (log : List Line) (e : Event) : Type 0 where
  pub next : IsNext p (line_of.Event e) log
  pub lawful : IsLawfulExactly p log → IsLawfulExactly p (line_of.Event e ∷ log)
  pub stand : (c : ℕ) (q : Register) → Stood p.shape c log q → Stood p.shape c (line_of.Event e ∷ log) q

-- an event whose numbers fit may come at any time
abbrev pub EventKeepsAll : Type 0
EventKeepsAll = (p : Plan) (log : List Line) (e : Event) → EventInRange e → EventComes p log e
