-- The HealBegin and HealEnd lines that the actor's register allows.
use Rattle.std.specs.Prelude.{◌≡◌, ◌≤◌, true, List, ◌∷◌, length}
use Rattle.afr_base.specs.declared.ids.ActorId.{ActorId}
use Rattle.afr_base.specs.declared.ids.Gfid.{Gfid}
use Rattle.afr_base.specs.declared.ids.Kind.{Kind}
use Rattle.afr_lines.specs.Places.{Between, place_of}
use Rattle.afr_lines.specs.declared.line.Line.{Line}
use Rattle.afr_lines.specs.declared.line.Line.TheVariants.{HealBegin, HealEnd}
use Rattle.afr_lines.specs.declared.reply.HealReply.{HealReply}
use Rattle.afr_plan.specs.declared.plan.Plan.{Plan}
use Rattle.afr_model_moves.specs.Keeps.{keeps_in}
use Rattle.afr_model_moves.specs.Ranges.{InRange}
use Rattle.afr_discipline.specs.Inside.{may_move}
use Rattle.afr_discipline.specs.Notes.{noted_part}
use Rattle.afr_discipline.specs.Stands.{HasFive, no_lines, seen_as}
use Rattle.afr_discipline.specs.declared.register.Move.{Move}
use Rattle.afr_discipline.specs.declared.register.Move.TheVariants as move
use Rattle.afr_discipline.specs.declared.register.Register.{Register}
use Rattle.afr_law_next.specs.Turn.{InForce}
use Rattle.afr_law_next.specs.Standing.{ComesNext}

-- the discipline's own test passes the move
abbrev pub AllowsMove : Register → Move → Type 0
AllowsMove r step = may_move r.shape.n (keeps_in r.shape) (seen_as r) step ≡ true

-- a HealBegin line that the register in force allows comes next
abbrev pub AllowedMayHealBegin : Type 0
AllowedMayHealBegin =
    (p : Plan) (log : List Line) (a : ActorId) (g : Gfid) (kind : Kind) (r : Register) → p.shape.n ≤ 5 → HasFive r → InForce p.shape a.0 log (HealBegin a g kind) r
    → AllowsMove r (move.HealBegin g kind) → InRange (HealBegin a g kind) → ComesNext p a (HealBegin a g kind) log (noted_part r (length log) kind)

-- a HealEnd line that the register in force allows in a heal comes next; after it the actor is between two heals, and has the register of no lines
abbrev pub AllowedMayHealEnd : Type 0
AllowedMayHealEnd =
    (p : Plan) (log : List Line) (a : ActorId) (g : Gfid) (kind : Kind) (said : HealReply) (r : Register) → p.shape.n ≤ 5 → HasFive r → InForce p.shape a.0 log (HealEnd a g kind said) r
    → r.inside ≡ true → AllowsMove r (move.End true) → InRange (HealEnd a g kind said)
    → ComesNext p a (HealEnd a g kind said) log (no_lines r.shape) × (place_of a.0 (HealEnd a g kind said ∷ log) ≡ Between)
