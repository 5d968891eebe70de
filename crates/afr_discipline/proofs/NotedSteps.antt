-- The steps, looks and reads that an answer leaves in the program's register stand for what it leaves in the exact one.
use Rattle.std.proofs.Common.{ℕ, ◌<◌, ◌≤◌, Bool, true, false, if◌then◌else◌, sym, subst}
use Rattle.afr_lines.specs.declared.answer.Told.{Told}
use Rattle.afr_lines.specs.declared.request.Request.{Request}
use Rattle.afr_model_moves.specs.Note.{left_by}
use Rattle.afr_model_moves.specs.Register.{Exact}
use Rattle.afr_discipline.specs.declared.register.Register.{Register}
use Rattle.afr_discipline.specs.Notes.{noted_steps}
use Rattle.afr_model_moves.specs.Keeps.{keeps_in}
use Rattle.afr_discipline.specs.Stands.{HasFive, Stands}
use Rattle.afr_discipline.proofs.StandsLemmas.{filled, is_filled}
use Rattle.afr_discipline.proofs.StepsOutside.{MayMatch, StepsStand, outside_stands}
use Rattle.afr_discipline.proofs.StepsInside.{inside_stands}

-- in a heal or outside
either_steps : (inside : Bool) (p q : Register) (r x : Exact) → StepsStand p r → StepsStand q x → StepsStand (if inside then p else q) (if inside then r else x)
either_steps true p q r x one two = one
either_steps false p q r x one two = two

-- the same over the exact register with the fields of the program
filled_noted : (p : Register) (r : Exact) (b t : ℕ) (request : Request) (told : Told) → p.shape.n ≤ 5 → b < 5 → HasFive p → MayMatch p r
    → StepsStand (noted_steps p t b request told) (left_by p.shape.n (keeps_in p.shape) (filled p r) t b request told)
filled_noted p r b t request told few small five possible =
    either_steps p.inside _ _ _ _ (inside_stands p r t b request told few small five possible) (outside_stands p r b request told small five.looked possible)

-- what the steps keep of a request and its answer
pub steps_noted : (p : Register) (r : Exact) (b t : ℕ) (request : Request) (told : Told) → p.shape.n ≤ 5 → b < 5 → HasFive p → Stands p r
    → StepsStand (noted_steps p t b request told) (left_by p.shape.n (keeps_in p.shape) r t b request told)
steps_noted p r b t request told few small five stands =
    subst (λ (x : Exact). StepsStand (noted_steps p t b request told) (left_by p.shape.n (keeps_in p.shape) x t b request told)) (sym (is_filled p r stands))
    (filled_noted p r b t request told few small five stands.possible)
