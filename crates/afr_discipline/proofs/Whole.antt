-- A register that stands in its law and its steps stands whole.
use Rattle.std.proofs.Common.{◌≡◌, ℕ, zero, suc, ◌<◌, ◌&&◌, ◌||◌, not, Bool, if◌then◌else◌, refl, ◌∙◌, ap, subst, arith}
use Rattle.afr_base.specs.Bricks.{member}
use Rattle.afr_base.specs.declared.ids.Shape.{Shape}
use Rattle.afr_model_moves.specs.Rules.{Register as LawRegister}
use Rattle.afr_model_moves.specs.Note.{stopping, stops_at}
use Rattle.afr_model_moves.specs.Register as exact
use Rattle.afr_model_moves.specs.Register.{Exact, over}
use Rattle.afr_model_moves.specs.Steps.{goes_on, looks_at}
use Rattle.afr_discipline.specs.declared.register.Register.{Register}
use Rattle.afr_discipline.specs.Notes.{joined, stopped}
use Rattle.afr_model_moves.specs.Keeps.{keeps_in}
use Rattle.afr_discipline.specs.Stands.{Stands, seen_as, step_of}
use Rattle.afr_discipline.proofs.StandsLemmas.{filled}
use Rattle.afr_discipline.proofs.FirstLemmas.{any_same}
use Rattle.afr_discipline.proofs.NotedLaw.{LawStands, stopped_law}
use Rattle.afr_discipline.proofs.StepsOutside.{MayMatch, StepsStand}

-- the half of the law's register
pub law_half : (p : Register) (r : Exact) → Stands p r → LawStands p r.law
law_half p r s = record {
  number = s.number;
  area = s.area;
  held = s.held;
  second = s.second;
  second_held = s.second_held;
  pre = s.pre;
  done = s.done;
  post = s.post;
  inside = s.inside;
  object = s.object;
  kind = s.kind;
  healing = s.healing;
  settled = s.settled;
}

-- the exact register is that of the program's fields
halves_fill : (p : Register) (r : Exact) → LawStands p r.law → StepsStand p r → r ≡ filled p r
halves_fill p r l s =
    rw (← l.number, ← l.area, ← l.held, ← l.second, ← l.second_held, ← l.pre, ← l.done, ← l.post, ← l.inside, ← l.object, ← l.kind, ← l.healing, ← l.settled, ← s.step, ← s.asked, ← s.unlocked, ← s.reached, ← s.views, ← s.first_reached, ← s.first_views, ← s.part, ← s.reads, ← s.upto, ← s.broken) refl

-- ---- whole
-- both halves are all of it
pub both_stand : (p : Register) (r : Exact) → LawStands p r.law → StepsStand p r → Stands p r
both_stand p r l s = record {
  number = l.number;
  area = l.area;
  held = l.held;
  second = l.second;
  second_held = l.second_held;
  pre = l.pre;
  done = l.done;
  post = l.post;
  inside = l.inside;
  object = l.object;
  kind = l.kind;
  healing = l.healing;
  settled = l.settled;
  step = s.step;
  asked = s.asked;
  unlocked = s.unlocked;
  reached = s.reached;
  views = s.views;
  first_reached = s.first_reached;
  first_views = s.first_views;
  part = s.part;
  possible = s.possible;
  reads = s.reads;
  upto = s.upto;
  broken = s.broken;
}

-- ---- stopped
-- what ends a heal is told by the fields that the program has
stops_unseen : (p : Register) (r : Exact) (step : exact.Step) → MayMatch p r → stops_at p.shape.n (keeps_in p.shape) (filled p r) step ≡ stops_at p.shape.n (keeps_in p.shape) (seen_as p) step
stops_unseen p r exact.HealLocks possible = refl
stops_unseen p r exact.WorkLocks possible = refl
stops_unseen p r exact.Looks possible =
    ap (λ (some : Bool). over p.shape.n (looks_at (seen_as p) (seen_as p).part) (member p.asked) && not some)
    (any_same p.shape.n (λ s. r.possible s && goes_on p.shape.n (keeps_in p.shape) (filled p r) s) (λ s. member p.possible s && goes_on p.shape.n (keeps_in p.shape) (seen_as p) s)
    (λ s l. ap (λ (may : Bool). may && goes_on p.shape.n (keeps_in p.shape) (seen_as p) s) (possible s l)))
stops_unseen p r _ possible = refl

-- a step ends the heal in both
broken_same : (p : Register) (r : Exact) → LawStands p r.law → StepsStand p r
    → (r.broken || stops_at p.shape.n (keeps_in p.shape) r r.step) ≡ (p.broken || stops_at p.shape.n (keeps_in p.shape) (seen_as p) (step_of p.step))
broken_same p r l s =
    ap (λ (x : Exact). x.broken || stops_at p.shape.n (keeps_in p.shape) x x.step) (halves_fill p r l s)
    ∙ ap (λ (stops : Bool). p.broken || stops) (stops_unseen p r (step_of p.step) s.possible)

-- the steps, with that end noted
stopped_steps : (p : Register) (r : Exact) → LawStands p r.law → StepsStand p r → StepsStand (stopped p) (stopping p.shape.n (keeps_in p.shape) r)
stopped_steps p r l s = record {
  step = s.step;
  asked = s.asked;
  unlocked = s.unlocked;
  reached = s.reached;
  views = s.views;
  first_reached = s.first_reached;
  first_views = s.first_views;
  part = s.part;
  possible = s.possible;
  reads = s.reads;
  upto = s.upto;
  broken = broken_same p r l s;
}

-- the steps of the one and the law's register of the other
pub joined_steps : (p q : Register) (r : Exact) (law : LawRegister) → StepsStand p r → StepsStand (joined p q) (record r { law = law })
joined_steps p q r law s = record {
  step = s.step;
  asked = s.asked;
  unlocked = s.unlocked;
  reached = s.reached;
  views = s.views;
  first_reached = s.first_reached;
  first_views = s.first_views;
  part = s.part;
  possible = s.possible;
  reads = s.reads;
  upto = s.upto;
  broken = s.broken;
}

-- both, for a register of this shape
pub stopped_stands : (p : Register) (r : Exact) (shape : Shape) → p.shape ≡ shape → LawStands p r.law → StepsStand p r → Stands (stopped p) (stopping shape.n (keeps_in shape) r)
stopped_stands p r shape same l s =
    subst (λ (here : Shape). Stands (stopped p) (stopping here.n (keeps_in here) r)) same
    (both_stand (stopped p) (stopping p.shape.n (keeps_in p.shape) r) (stopped_law p r.law l) (stopped_steps p r l s))
