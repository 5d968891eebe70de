-- What a move and its answer leave in the program's register stands for what they leave in the exact one.
use Rattle.std.proofs.Common.{ℕ, suc, ◌<◌, ◌≤◌, Bool, true, false, if◌then◌else◌, [], ◌∷◌, refl, sym, subst, None, Some}
use Rattle.afr_base.specs.declared.ids.Kind.{Kind}
use Rattle.afr_choice.specs.Looks.{no_looks}
use Rattle.afr_lines.specs.declared.answer.Told.{Told}
use Rattle.afr_lines.specs.declared.request.Request.{Request}
use Rattle.afr_model_moves.specs.Sets.{empty}
use Rattle.afr_model_moves.specs.Past.{is_gone}
use Rattle.afr_model_moves.specs.Rules as weak
use Rattle.afr_model_moves.specs.Rules.{no_views}
use Rattle.afr_model_moves.specs.Note.{left_by, stopping}
use Rattle.afr_model_moves.specs.Register as exact
use Rattle.afr_model_moves.specs.Register.{Exact, no_reads, untouched}
use Rattle.afr_discipline.specs.declared.register.Move.{Move}
use Rattle.afr_discipline.specs.declared.register.Move.TheVariants as move
use Rattle.afr_discipline.specs.declared.register.Register.{Register}
use Rattle.afr_discipline.specs.declared.register.Step.TheVariants.{Open, Looks}
use Rattle.afr_discipline.specs.Moves.{note_move}
use Rattle.afr_discipline.specs.Notes.{AsksBelow, dropped, joined, noted, noted_ask, noted_begin, noted_law, noted_part, noted_steps}
use Rattle.afr_model_moves.specs.Keeps.{keeps_in}
use Rattle.afr_discipline.specs.Stands.{HasFive, Stands, no_lines}
use Rattle.afr_discipline.proofs.StandsLemmas.{no_reads_kept, no_views_shown, stands_untouched}
use Rattle.afr_discipline.proofs.NotedShape.{steps_shape}
use Rattle.afr_discipline.proofs.NotedLaw.{begun_law, joined_law, law_noted, part_law}
use Rattle.afr_discipline.proofs.StepsOutside.{StepsStand}
use Rattle.afr_discipline.proofs.NotedSteps.{steps_noted}
use Rattle.afr_discipline.proofs.Whole.{both_stand, joined_steps, law_half, stopped_stands}

-- ---- a request
-- what the law's register keeps of it
abbrev law_after : Register → Exact → ℕ → Request → Told → weak.Register
law_after p r b request told = weak.dropping (is_gone told) b (weak.note_ask p.shape.n r.law b request told)

-- a request and its answer
ask_stands : (p : Register) (r : Exact) (b t : ℕ) (request : Request) (told : Told) → p.shape.n ≤ 5 → b < 5 → HasFive p → Stands p r
    → Stands (noted_ask p t b request told) (stopping p.shape.n (keeps_in p.shape) (record (left_by p.shape.n (keeps_in p.shape) r t b request told) { law = law_after p r b request told }))
ask_stands p r b t request told few small five s =
    let walked = noted_steps p t b request told in
    let kept = dropped (is_gone told) b (noted_law p b request told) in
    let x = left_by p.shape.n (keeps_in p.shape) r t b request told in
    let law = law_after p r b request told in
    stopped_stands (joined walked kept) (record x { law = law }) p.shape (steps_shape p t b request told)
    (joined_law walked kept law (law_noted p r.law b request told (law_half p r s)))
    (joined_steps walked kept x law (steps_noted p r b t request told few small five s))

-- ---- a Begin
-- the steps after it
begin_steps : (p : Register) (r : Exact) (t : ℕ) → Stands p r → StepsStand (record p { step = Open; begun = Some t }) (record r { step = exact.Open; law = record r.law { number = suc t } })
begin_steps p r t s = record {
  step = refl;
  asked = s.asked;
  unlocked = s.unlocked;
  reached = s.reached;
  views = s.views;
  first_reached = s.first_reached;
  first_views = s.first_views;
  part = s.part;
  possible = s.possible;
  reads = s.reads;
  upto = s.upto;
  broken = s.broken;
}

-- and all that it leaves
begin_stands : (p : Register) (r : Exact) (t : ℕ) → Stands p r → Stands (noted_begin p t) (record r { step = exact.Open; law = record r.law { number = suc t } })
begin_stands p r t s =
    both_stand (record p { step = Open; begun = Some t }) (record r { step = exact.Open; law = record r.law { number = suc t } }) (begun_law p r.law t (law_half p r s)) (begin_steps p r t s)

-- ---- a HealBegin
-- the program's register after it
abbrev part_register : Register → ℕ → Kind → Register
part_register p t kind = record p { begun = Some t; kind = kind; step = Looks; asked = []; looked = no_looks; reads = None ∷ None ∷ None ∷ None ∷ None ∷ [] }

-- the exact register after it
abbrev part_exact : Exact → ℕ → Kind → Exact
part_exact r t kind = record r { law = weak.piece r.law t kind; step = exact.Looks; asked = empty; reached = empty; views = no_views; reads = no_reads }

-- the steps after it
part_steps : (p : Register) (r : Exact) (t : ℕ) (kind : Kind) → Stands p r → StepsStand (part_register p t kind) (part_exact r t kind)
part_steps p r t kind s = record {
  step = refl;
  asked = refl;
  unlocked = s.unlocked;
  reached = refl;
  views = no_views_shown;
  first_reached = s.first_reached;
  first_views = s.first_views;
  part = s.part;
  possible = s.possible;
  reads = no_reads_kept;
  upto = s.upto;
  broken = s.broken;
}

-- and all that it leaves
part_stands : (p : Register) (r : Exact) (t : ℕ) (kind : Kind) → Stands p r → Stands (noted_part p t kind) (part_exact r t kind)
part_stands p r t kind s = both_stand (part_register p t kind) (part_exact r t kind) (part_law p r.law t kind (law_half p r s)) (part_steps p r t kind s)

-- ---- an end
-- in a heal or outside
either_stands : (inside : Bool) (p q : Register) (r x : Exact) → Stands p r → Stands q x → Stands (if inside then p else q) (if inside then r else x)
either_stands true p q r x one two = one
either_stands false p q r x one two = two

-- the end of a heal leaves the register of no line
end_stands : (p : Register) (r : Exact) → p.shape.n ≤ 5 → Stands p r → Stands (if p.inside then no_lines p.shape else p) (if r.law.heal then untouched else r)
end_stands p r few s =
    subst (λ (inside : Bool). Stands (if p.inside then no_lines p.shape else p) (if inside then untouched else r)) (sym s.inside)
    (either_stands p.inside (no_lines p.shape) p untouched r (stands_untouched p.shape few) s)

-- ---- a move
-- each move
pub noted_stands : (p : Register) (r : Exact) (step : Move) (told : Told) (t : ℕ) → p.shape.n ≤ 5 → HasFive p → AsksBelow step → Stands p r
    → Stands (noted p step told t) (note_move p.shape.n (keeps_in p.shape) r step told t)
noted_stands p r (move.Ask b request) told t few five below s = ask_stands p r b.0 t request.now told few below five s
noted_stands p r (move.Begin change) told t few five below s = begin_stands p r t s
noted_stands p r (move.HealBegin g kind) told t few five below s = part_stands p r t kind s
noted_stands p r (move.End ok) told t few five below s = end_stands p r few s
