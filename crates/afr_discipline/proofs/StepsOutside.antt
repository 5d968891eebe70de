-- What an answer outside a heal leaves of the steps, looks and reads stands for what it leaves in the exact register.
use Rattle.std.proofs.Common.{◌≡◌, ℕ, ◌<◌, ◌||◌, not, Bool, true, false, if◌then◌else◌, List, [], length, refl, None, Some}
use Rattle.afr_base.specs.Bricks.{added_if, member}
use Rattle.afr_choice.specs.Looks.{no_looks, with_look, without_look}
use Rattle.afr_choice.specs.declared.looked.Looked.{Looked}
use Rattle.afr_lines.specs.declared.lock.Domain.TheVariants.{Work, Heal}
use Rattle.afr_lines.specs.declared.answer.Told.{Told}
use Rattle.afr_lines.specs.declared.answer.Told.TheVariants.{Seen, NoObject}
use Rattle.afr_lines.specs.declared.request.Request.{Request}
use Rattle.afr_lines.specs.declared.request.Request.TheVariants.{Lock, Unlock, Look, Pre, Apply, Post}
use Rattle.afr_model_moves.specs.Sets.{empty, with}
use Rattle.afr_model_moves.specs.Rules.{is_area, no_views}
use Rattle.afr_model_moves.specs.Note.{answers, entering, is_held, left_outside, put, put_look, stay, view_of}
use Rattle.afr_model_moves.specs.Register as exact
use Rattle.afr_model_moves.specs.Register.{Exact, same_step}
use Rattle.afr_discipline.specs.declared.register.Register.{Register}
use Rattle.afr_discipline.specs.declared.register.Step.{Step}
use Rattle.afr_discipline.specs.declared.register.Step.TheVariants.{Open, Pres, Applies, Posts, HealLocks}
use Rattle.afr_discipline.specs.Notes.{counts, entered, is_working, noted_outside, shown, shown_if, stayed}
use Rattle.afr_discipline.specs.Stands.{heal_part_of, reads_of, step_of, views_of}
use Rattle.afr_discipline.proofs.StandsLemmas.{filled, no_views_shown}
use Rattle.afr_discipline.proofs.SetsOfFive.{put_marked_no, put_marked_yes, put_no_view, put_view, with_not}

-- the steps, looks and reads of the program's register are those of the exact one
pub record StepsStand (p : Register) (r : Exact) : Type 0 where
  pub step : r.step ≡ step_of p.step
  pub asked : r.asked ≡ member p.asked
  pub unlocked : r.unlocked ≡ p.unlocked
  pub reached : r.reached ≡ member p.looked.reached
  pub views : r.views ≡ views_of p.looked
  pub first_reached : r.first_reached ≡ member p.seen.reached
  pub first_views : r.first_views ≡ views_of p.seen
  pub part : r.part ≡ heal_part_of p.part
  pub possible : (s : ℕ) → s < p.shape.n → r.possible s ≡ member p.possible s
  pub reads : r.reads ≡ reads_of p.reads
  pub upto : r.upto ≡ p.upto
  pub broken : r.broken ≡ p.broken

-- the same without what may be the source, and whether the heal is broken
pub record WalkStands (p : Register) (r : Exact) : Type 0 where
  pub step : r.step ≡ step_of p.step
  pub asked : r.asked ≡ member p.asked
  pub unlocked : r.unlocked ≡ p.unlocked
  pub reached : r.reached ≡ member p.looked.reached
  pub views : r.views ≡ views_of p.looked
  pub first_reached : r.first_reached ≡ member p.seen.reached
  pub first_views : r.first_views ≡ views_of p.seen
  pub part : r.part ≡ heal_part_of p.part
  pub reads : r.reads ≡ reads_of p.reads
  pub upto : r.upto ≡ p.upto

-- the brick that was asked is among them, unless it is asked again
pub asked_again : (again : Bool) (b : ℕ) (same : Bool) (s : List ℕ)
    → (if again then (if same then member s else empty) else with (if same then member s else empty) b) ≡ member (added_if (not again) b (if same then s else []))
asked_again again b true s = with_not again b s
asked_again again b false s = with_not again b []

-- the step of a line that enters none
stayed_at : (none : Bool) (step : Step) → (if none then exact.Open else step_of step) ≡ step_of (if none then Open else step)
stayed_at true step = refl
stayed_at false step = refl

-- ---- looks
-- the bricks that answered
pub shown_reached : (b : ℕ) (looked : Looked) (told : Told) → put (member looked.reached) b (answers told) ≡ member (shown looked b told).reached
shown_reached b looked told = go (answers told)
  where
    go : (yes : Bool) → put (member looked.reached) b yes ≡ member (if yes then with_look b (view_of told) looked else without_look b looked).reached
    go true = put_marked_yes b looked.reached
    go false = put_marked_no b looked.reached

-- what they showed
pub shown_views : (b : ℕ) (looked : Looked) (told : Told) → b < 5 → length looked.views ≡ 5 → put (views_of looked) b (view_of told) ≡ views_of (shown looked b told)
shown_views b looked (Seen view) small five = put_view b small looked (Some view) five
shown_views b looked NoObject small five = put_view b small looked None five
shown_views b looked told small five = put_no_view b small looked five

-- the same for a look that may not count
pub counted_reached : (counted : Bool) (b : ℕ) (looked : Looked) (told : Told)
    → (if counted then put (member looked.reached) b (answers told) else member looked.reached) ≡ member (shown_if counted looked b told).reached
counted_reached true b looked told = shown_reached b looked told
counted_reached false b looked told = refl

-- the same of what they showed, for a look that may not count
pub counted_views : (counted : Bool) (b : ℕ) (looked : Looked) (told : Told) → b < 5 → length looked.views ≡ 5
    → (if counted then put (views_of looked) b (view_of told) else views_of looked) ≡ views_of (shown_if counted looked b told)
counted_views true b looked told small five = shown_views b looked told small five
counted_views false b looked told small five = refl

-- ---- the walk
-- a line that enters a step
pub entered_walks : (p : Register) (r : Exact) (step : Step) (b : ℕ) (again : Bool) → WalkStands (entered p step b again) (entering (filled p r) (step_of step) b again)
entered_walks p r step b again = record {
  step = refl;
  asked = asked_again again b (same_step (step_of p.step) (step_of step)) p.asked;
  unlocked = refl;
  reached = refl;
  views = refl;
  first_reached = refl;
  first_views = refl;
  part = refl;
  reads = refl;
  upto = refl;
}

-- a line that enters no step
stayed_walks : (p : Register) (r : Exact) → WalkStands (stayed p) (stay (filled p r))
stayed_walks p r = record {
  step = stayed_at (same_step (step_of p.step) exact.Untouched) p.step;
  asked = refl;
  unlocked = refl;
  reached = refl;
  views = refl;
  first_reached = refl;
  first_views = refl;
  part = refl;
  reads = refl;
  upto = refl;
}

-- a Work lock outside a heal
locked_walks : (p : Register) (r : Exact) (busy : Bool)
    → WalkStands (if busy then stayed p else record p { step = Open; asked = []; unlocked = false; looked = no_looks }) (if busy then stay (filled p r) else record (filled p r) { step = exact.Open; asked = empty; unlocked = false; reached = empty; views = no_views })
locked_walks p r true = stayed_walks p r
locked_walks p r false = record {
  step = refl;
  asked = refl;
  unlocked = refl;
  reached = refl;
  views = no_views_shown;
  first_reached = refl;
  first_views = refl;
  part = refl;
  reads = refl;
  upto = refl;
}

-- an unlock outside a heal
unlocked_walks : (p : Register) (r : Exact) (unlocked : Bool) → WalkStands (record (stayed p) { unlocked = unlocked }) (record (stay (filled p r)) { unlocked = unlocked })
unlocked_walks p r unlocked = record {
  step = stayed_at (same_step (step_of p.step) exact.Untouched) p.step;
  asked = refl;
  unlocked = refl;
  reached = refl;
  views = refl;
  first_reached = refl;
  first_views = refl;
  part = refl;
  reads = refl;
  upto = refl;
}

-- a look outside a heal
looked_walks : (p : Register) (r : Exact) (counted : Bool) (b : ℕ) (told : Told) → b < 5 → length p.looked.views ≡ 5
    → WalkStands (record (stayed p) { looked = shown_if counted p.looked b told }) (put_look (stay (filled p r)) counted b told)
looked_walks p r counted b told small five = record {
  step = stayed_at (same_step (step_of p.step) exact.Untouched) p.step;
  asked = refl;
  unlocked = refl;
  reached = counted_reached counted b p.looked told;
  views = counted_views counted b p.looked told small five;
  first_reached = refl;
  first_views = refl;
  part = refl;
  reads = refl;
  upto = refl;
}

-- ---- with the source and the end
-- the source and the end beside the walk
pub whole : {p : Register} {r : Exact} → WalkStands p r → ((s : ℕ) → s < p.shape.n → r.possible s ≡ member p.possible s) → r.broken ≡ p.broken → StepsStand p r
whole walk possible broken = record {
  step = walk.step;
  asked = walk.asked;
  unlocked = walk.unlocked;
  reached = walk.reached;
  views = walk.views;
  first_reached = walk.first_reached;
  first_views = walk.first_views;
  part = walk.part;
  possible = possible;
  reads = walk.reads;
  upto = walk.upto;
  broken = broken;
}

-- the same where both have changed
pub whole_with : (p : Register) (r : Exact) (set : List ℕ) (may : ℕ → Bool) (ends end : Bool) → WalkStands p r → ((s : ℕ) → s < p.shape.n → may s ≡ member set s) → end ≡ ends
    → StepsStand (record p { possible = set; broken = ends }) (record r { possible = may; broken = end })
whole_with p r set may ends end walk possible broken = record {
  step = walk.step;
  asked = walk.asked;
  unlocked = walk.unlocked;
  reached = walk.reached;
  views = walk.views;
  first_reached = walk.first_reached;
  first_views = walk.first_views;
  part = walk.part;
  possible = possible;
  reads = walk.reads;
  upto = walk.upto;
  broken = broken;
}

-- what may be the source is the same below n
abbrev pub MayMatch : Register → Exact → Type 0
MayMatch p r = (s : ℕ) → s < p.shape.n → r.possible s ≡ member p.possible s

-- a Work lock outside a heal, with the source and the end
locked_stands : (p : Register) (r : Exact) → MayMatch p r → (busy : Bool)
    → StepsStand (if busy then stayed p else record p { step = Open; asked = []; unlocked = false; looked = no_looks }) (if busy then stay (filled p r) else record (filled p r) { step = exact.Open; asked = empty; unlocked = false; reached = empty; views = no_views })
locked_stands p r possible true = whole (locked_walks p r true) possible refl
locked_stands p r possible false = whole (locked_walks p r false) possible refl

-- a request and its answer
pub outside_stands : (p : Register) (r : Exact) (b : ℕ) (request : Request) (told : Told) → b < 5 → length p.looked.views ≡ 5 → MayMatch p r
    → StepsStand (noted_outside p b request told) (left_outside p.shape.n (filled p r) b request told)
outside_stands p r b (Lock Work area) told small five possible = locked_stands p r possible (is_working p)
outside_stands p r b (Lock Heal area) told small five possible =
    whole_with (entered p HealLocks b false) (entering (filled p r) exact.HealLocks b false) p.possible r.possible (p.broken || is_held told) (p.broken || is_held told) (entered_walks p r HealLocks b false) possible refl
outside_stands p r b (Unlock Work area) told small five possible = whole (unlocked_walks p r (is_area p.area area || p.unlocked)) possible refl
outside_stands p r b (Look g) told small five possible = whole (looked_walks p r (counts p b g.0) b told small five) possible refl
outside_stands p r b (Pre g kind) told small five possible = whole (entered_walks p r Pres b false) possible refl
outside_stands p r b (Apply q) told small five possible = whole (entered_walks p r Applies b false) possible refl
outside_stands p r b (Post q g kind missed) told small five possible = whole (entered_walks p r Posts b false) possible refl
outside_stands p r b request told small five possible = whole (stayed_walks p r) possible refl
