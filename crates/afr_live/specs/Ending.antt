-- What a run by threads has done where it may have enough lines.
use Rattle.std.specs.Prelude.{◌≡◌, ℕ, ◌+◌, ◌*◌, ◌≤◌, true, List, length}
use Rattle.afr_law_bound.specs.Ends.Left.{bound_of}
use Rattle.afr_lines.specs.declared.line.Line.{Line}
use Rattle.afr_model.specs.Actors.{IsActor, is_done}
use Rattle.afr_model.specs.Ordered.{actors_of}
use Rattle.afr_plan.specs.declared.plan.Plan.{Plan}

-- with as many turns as twice the bound, and one for each actor and event, each actor was killed or has ended all its works
abbrev pub EndsInAnyOrder : Plan → List Line → Type 0
EndsInAnyOrder p log = 2 * bound_of p + length (actors_of p) * length p.events ≤ p.turns → (a : ℕ) → IsActor p a → is_done p a log ≡ true
