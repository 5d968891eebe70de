-- What an answer in a heal leaves of the steps, looks and reads stands for what it leaves in the exact register.
use Rattle.std.proofs.Common.{◌≡◌, ℕ, ◌<◌, ◌≤◌, ◌&&◌, ◌||◌, not, Bool, true, false, if◌then◌else◌, refl, sym, ◌∙◌, ap, subst, arith}
use Rattle.afr_base.specs.Bricks.{member}
use Rattle.afr_base.specs.declared.ids.Kind.TheVariants.{Bytes}
use Rattle.afr_base.specs.declared.ids.Shape.{Shape}
use Rattle.afr_lines.specs.declared.lock.Domain.TheVariants.{Work, Heal}
use Rattle.afr_lines.specs.declared.answer.Told.{Told}
use Rattle.afr_lines.specs.declared.request.Area.{Area}
use Rattle.afr_lines.specs.declared.request.Request.{Request}
use Rattle.afr_lines.specs.declared.request.Request.TheVariants.{Lock, Unlock, Look, ReadBytes, List as ListNames, ReadAttrs, Pre, Mend, Settle}
use Rattle.afr_lines.specs.Overlap.{same_area}
use Rattle.afr_model_moves.specs.Note.{answers, breaks, entering, fails, given, is_failed, is_given, is_granted, left_in_heal, next_part, put_first, put_look, reading}
use Rattle.afr_model_moves.specs.Register as exact
use Rattle.afr_model_moves.specs.Register.{Exact, is_opening, same_step, whole_area}
use Rattle.afr_model_moves.specs.Steps.{may_heal}
use Rattle.afr_discipline.specs.declared.register.Register.{Register}
use Rattle.afr_discipline.specs.declared.register.Step.TheVariants.{HealLocks, WorkLocks, HealPres, Mends, Settles, Unlocks, HealUnlocks}
use Rattle.afr_discipline.specs.declared.register.HealPart.{HealPart}
use Rattle.afr_discipline.specs.declared.register.HealPart.TheVariants.{Piece, Finish}
use Rattle.afr_discipline.specs.Inside.{allows}
use Rattle.afr_discipline.specs.Notes.{broken_by, entered, leaves_open, looked_inside, noted_inside, part_after, read_inside, still_possible, upto_after}
use Rattle.afr_model_moves.specs.Keeps.{keeps_in}
use Rattle.afr_discipline.specs.Stands.{HasFive, heal_part_of, seen_as, step_of}
use Rattle.afr_discipline.proofs.StandsLemmas.{filled}
use Rattle.afr_discipline.proofs.HealDecisions.{heal_unseen}
use Rattle.afr_discipline.proofs.NotedShape.{inside_shape}
use Rattle.afr_base.proofs.OfFive.{member_picked}
use Rattle.afr_discipline.proofs.SetsOfFive.{put_read}
use Rattle.afr_discipline.proofs.StepsOutside.{MayMatch, StepsStand, WalkStands, asked_again, counted_reached, counted_views, entered_walks, shown_reached, shown_views, whole_with}

-- the part of a heal that a Work lock begins
part_at : (first all : Bool) (part : HealPart) → (if first then (if all then exact.Finish else exact.Piece) else heal_part_of part) ≡ heal_part_of (if first then (if all then Finish else Piece) else part)
part_at true true part = refl
part_at true false part = refl
part_at false all part = refl

-- the part that the exact register and the program name is the same
part_is : (p : Register) (r : Exact) (area : Area) → next_part (filled p r) area ≡ heal_part_of (part_after p area)
part_is p r area = part_at (same_step (step_of p.step) exact.Unlocks) (same_area (whole_area p.object.0 Bytes) area) p.part

-- ---- the walk
-- a Work lock
locked_walks : (p : Register) (r : Exact) (b : ℕ) (area : Area) (again : Bool)
    → WalkStands (record (entered p WorkLocks b again) { part = part_after p area }) (record (entering (filled p r) exact.WorkLocks b again) { part = next_part (filled p r) area })
locked_walks p r b area again = record {
  step = refl;
  asked = asked_again again b (same_step (step_of p.step) exact.WorkLocks) p.asked;
  unlocked = refl;
  reached = refl;
  views = refl;
  first_reached = refl;
  first_views = refl;
  part = part_is p r area;
  reads = refl;
  upto = refl;
}

-- an unlock
unlocked_walks : (p : Register) (r : Exact) (b upto : ℕ) (again : Bool) → WalkStands (record (entered p Unlocks b again) { upto = upto }) (record (entering (filled p r) exact.Unlocks b again) { upto = upto })
unlocked_walks p r b upto again = record {
  step = refl;
  asked = asked_again again b (same_step (step_of p.step) exact.Unlocks) p.asked;
  unlocked = refl;
  reached = refl;
  views = refl;
  first_reached = refl;
  first_views = refl;
  part = refl;
  reads = refl;
  upto = refl;
}

-- a look
looked_walks : (p : Register) (r : Exact) (b : ℕ) (told : Told) → b < 5 → HasFive p
    → WalkStands (looked_inside p b told) (put_first (put_look (entering (filled p r) exact.Looks b (not (answers told || fails told))) true b told) b told)
looked_walks p r b told small five = record {
  step = refl;
  asked = asked_again (not (answers told || fails told)) b (same_step (step_of p.step) exact.Looks) p.asked;
  unlocked = refl;
  reached = shown_reached b p.looked told;
  views = shown_views b p.looked told small five.looked;
  first_reached = counted_reached (is_opening (heal_part_of p.part)) b p.seen told;
  first_views = counted_views (is_opening (heal_part_of p.part)) b p.seen told small five.seen;
  part = refl;
  reads = refl;
  upto = refl;
}

-- a read
read_walks : (p : Register) (r : Exact) (t b : ℕ) (told : Told) → b < 5 → HasFive p → WalkStands (read_inside p t b told) (reading (filled p r) t b told)
read_walks p r t b told small five = record {
  step = refl;
  asked = asked_again (not (is_given told || fails told)) b (same_step (step_of p.step) exact.Reads) p.asked;
  unlocked = refl;
  reached = refl;
  views = refl;
  first_reached = refl;
  first_views = refl;
  part = refl;
  reads = put_read b small p.reads (given told t) five.reads;
  upto = refl;
}

-- a request that a heal doesn't ask
same_walks : (p : Register) (r : Exact) → WalkStands p (filled p r)
same_walks p r = record {
  step = refl;
  asked = refl;
  unlocked = refl;
  reached = refl;
  views = refl;
  first_reached = refl;
  first_views = refl;
  part = refl;
  reads = refl;
  upto = refl;
}

-- each request
inside_walks : (p : Register) (r : Exact) (t b : ℕ) (request : Request) (told : Told) → b < 5 → HasFive p → WalkStands (noted_inside p t b request told) (left_in_heal p.shape.n (filled p r) t b request told)
inside_walks p r t b (Lock Heal area) told small five = entered_walks p r HealLocks b false
inside_walks p r t b (Lock Work area) told small five = locked_walks p r b area (not (is_granted told || fails told))
inside_walks p r t b (Unlock Work area) told small five = unlocked_walks p r b (upto_after p) (is_failed told)
inside_walks p r t b (Unlock Heal area) told small five = entered_walks p r HealUnlocks b (is_failed told)
inside_walks p r t b (Look g) told small five = looked_walks p r b told small five
inside_walks p r t b (ReadBytes g at len) told small five = read_walks p r t b told small five
inside_walks p r t b (ReadAttrs g) told small five = read_walks p r t b told small five
inside_walks p r t b (ListNames g) told small five = read_walks p r t b told small five
inside_walks p r t b (Pre g kind) told small five = entered_walks p r HealPres b (leaves_open told)
inside_walks p r t b (Mend repair) told small five = entered_walks p r Mends b (leaves_open told)
inside_walks p r t b (Settle g kind less) told small five = entered_walks p r Settles b (leaves_open told)
inside_walks p r t b request told small five = same_walks p r

-- ---- the source and the end
-- the answer that ends the heal
breaks_is : (p : Register) (r : Exact) (request : Request) (told : Told) → breaks (filled p r) request told ≡ broken_by p request told
breaks_is p r (Lock Heal area) told = refl
breaks_is p r (Lock Work area) told = ap (λ (part : exact.HealPart). fails told && not (is_opening part)) (part_is p r area)
breaks_is p r (Look g) told = refl
breaks_is p r (Unlock domain area) told = refl
breaks_is p r request told = refl

-- what may be the source allows the request
allowed_is : (p : Register) (r : Exact) (b : ℕ) (request : Request) → MayMatch p r → (s : ℕ) → s < p.shape.n
    → allows p.shape.n (keeps_in p.shape) (filled p r) b request s ≡ allows p.shape.n (keeps_in p.shape) (seen_as p) b request s
allowed_is p r b request possible s l = rw (possible s l, heal_unseen p r s b request) refl

-- the bricks that may still be the source
possible_is : (p : Register) (r : Exact) (b : ℕ) (request : Request) → p.shape.n ≤ 5 → MayMatch p r → (s : ℕ) → s < p.shape.n
    → allows p.shape.n (keeps_in p.shape) (filled p r) b request s ≡ member (still_possible p b request) s
possible_is p r b request few possible s l =
    allowed_is p r b request possible s l ∙ sym (member_picked (allows p.shape.n (keeps_in p.shape) (seen_as p) b request) s (omega arith))

-- a request and its answer
pub inside_stands : (p : Register) (r : Exact) (t b : ℕ) (request : Request) (told : Told) → p.shape.n ≤ 5 → b < 5 → HasFive p → MayMatch p r
    → StepsStand (record (noted_inside p t b request told) { possible = still_possible p b request; broken = p.broken || broken_by p request told }) (record (left_in_heal p.shape.n (filled p r) t b request told) { possible = λ s. r.possible s && may_heal p.shape.n (keeps_in p.shape) (filled p r) s b request; broken = p.broken || breaks (filled p r) request told })
inside_stands p r t b request told few small five possible =
    whole_with (noted_inside p t b request told) (left_in_heal p.shape.n (filled p r) t b request told) (still_possible p b request) (allows p.shape.n (keeps_in p.shape) (filled p r) b request) (p.broken || broken_by p request told) (p.broken || breaks (filled p r) request told)
    (inside_walks p r t b request told small five)
    (λ s l. possible_is p r b request few possible s (subst (λ (shape : Shape). s < shape.n) (inside_shape p t b request told) l))
    (ap (λ (ends : Bool). p.broken || ends) (breaks_is p r request told))
