-- A Begin line that the actor's register allows.
use Rattle.std.specs.Prelude.{◌≡◌, ℕ, ◌+◌, ◌≤◌, List, Some, length}
use Rattle.afr_base.specs.declared.ids.ActorId.{ActorId}
use Rattle.afr_object.specs.declared.change.Change.{Change}
use Rattle.afr_object.specs.declared.change.Change.TheVariants.{Make}
use Rattle.afr_lines.specs.declared.line.Line.{Line}
use Rattle.afr_lines.specs.declared.line.Line.TheVariants.{Begin}
use Rattle.afr_lines.specs.declared.line.Next.TheVariants as next
use Rattle.afr_plan.specs.declared.plan.Plan.{Plan}
use Rattle.afr_model_moves.specs.Discipline.{BeginsKnown}
use Rattle.afr_model_moves.specs.Positions.{by_position}
use Rattle.afr_model_moves.specs.Ranges.{InRange}
use Rattle.afr_discipline.specs.Notes.{noted_begin}
use Rattle.afr_discipline.specs.Stands.{HasFive}
use Rattle.afr_discipline.specs.declared.register.Register.{Register}
use Rattle.afr_discipline.specs.Free.{Allows}
use Rattle.afr_law_next.specs.Turn.{InForce}
use Rattle.afr_law.specs.Beginning.{start_of}
use Rattle.afr_law.specs.Exactly.{name_bound}
use Rattle.afr_law_next.specs.Standing.{ComesNext}

-- an object that the change makes at this position has the position plus 2 as its gfid
abbrev pub HasNewGfid : ℕ → Change → Type 0
HasNewGfid at (Make dir name g what) = g.0 ≡ at + 2
HasNewGfid at change = Unit {0}

-- a Begin line that the register in force allows, and whose numbers fit, comes next, if the object that it makes a name for is known
abbrev pub AllowedMayBegin : Type 0
AllowedMayBegin =
    (p : Plan) (log : List Line) (a : ActorId) (change : Change) (r : Register) → p.shape.n ≤ 5 → HasFive r → InForce p.shape a.0 log (Begin a change) r
    → Allows r (next.Begin change) → InRange (Begin a change) → BeginsKnown (start_of p (name_bound p)) (by_position log) (length log) (Some (Begin a change)) → ComesNext p a (Begin a change) log (noted_begin r (length log))
