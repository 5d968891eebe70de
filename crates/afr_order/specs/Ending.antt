-- What a run in the stated order has done where it may have as many lines as its bound.
use Rattle.std.specs.Prelude.{◌≡◌, ℕ, ◌≤◌, true, List}
use Rattle.afr_law_bound.specs.Ends.Left.{bound_of}
use Rattle.afr_lines.specs.declared.line.Line.{Line}
use Rattle.afr_model.specs.Actors.{IsActor, is_done}
use Rattle.afr_plan.specs.declared.plan.Plan.{Plan}

-- with as many turns as the bound, each actor was killed or has ended all its works
abbrev pub EndsInBound : Plan → List Line → Type 0
EndsInBound p log = bound_of p ≤ p.turns → (a : ℕ) → IsActor p a → is_done p a log ≡ true
