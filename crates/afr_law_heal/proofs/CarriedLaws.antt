-- The laws of a heal and its lines over the program's register, from those of each stage.
use Rattle.std.proofs.Common.{ℕ, ◌≡◌, ◌<◌, ◌∷◌, Bool, List, None, Option, Some, refl, subst, suc, sym, true, zero}
use Rattle.afr_base.specs.Bricks.{member}
use Rattle.afr_base.specs.declared.ids.ActorId.{ActorId}
use Rattle.afr_base.specs.declared.ids.Gfid.{Gfid}
use Rattle.afr_base.specs.declared.ids.Kind.{Kind}
use Rattle.afr_base.specs.declared.ids.Shape.{Shape}
use Rattle.afr_choice.specs.Looks.{no_looks}
use Rattle.afr_choice.specs.declared.looked.Looked.{Looked}
use Rattle.afr_discipline.specs.Laws.{NotesStand, ShapesKept}
use Rattle.afr_discipline.specs.Notes.{noted_ask, noted_part}
use Rattle.afr_discipline.specs.Stands.{HasFive, Stands, no_lines, seen_as}
use Rattle.afr_discipline.specs.Turns.{find}
use Rattle.afr_discipline.specs.declared.register.Move.TheVariants as move
use Rattle.afr_discipline.specs.declared.register.Register.{Register}
use Rattle.afr_heal.proofs.Carried.{restyled_is, self_stands}
use Rattle.afr_heal.proofs.Finding.{find_none, find_some}
use Rattle.afr_heal.proofs.Parts.{not_both}
use Rattle.afr_heal.specs.Answers.{PicksOne, asked_for, begun_at, fits}
use Rattle.afr_heal.specs.Carried.{Heals, next_by}
use Rattle.afr_heal.specs.Engine.{Ask, Begins, Ends, NextOfHeal}
use Rattle.afr_heal.specs.Runs.{lowest, pick_of}
use Rattle.afr_law_heal.proofs.CarriedNotes.{LooksKept, looks_kept, shown_noted, stands_noted}
use Rattle.afr_law_heal.proofs.CarriedStages.{tells_restyled}
use Rattle.afr_law_heal.proofs.StageLaws.{StageTells, TellsNext, looked_next, outcome_next, seen_next}
use Rattle.afr_law_heal.specs.HealLaws.{HealBeginsTold, HealEndsWell, HealSettlesSeen, HealTellsBegun, HealTellsMore, IsWholeTold, source_next}
use Rattle.afr_law_heal.specs.HealTelling.{HealTells, Tells}
use Rattle.afr_law_heal.specs.Stages.{IsShown}
use Rattle.afr_lines.specs.Work.{Work}
use Rattle.afr_lines.specs.declared.answer.Told.{Told}
use Rattle.afr_lines.specs.declared.answer.Told.TheVariants as as_told
use Rattle.afr_lines.specs.declared.line.Line.{Line}
use Rattle.afr_lines.specs.declared.line.Line.TheVariants as line
use Rattle.afr_lines.specs.declared.request.Request.{Request}
use Rattle.afr_model_moves.specs.Keeps.{keeps_in}
use Rattle.afr_model_moves.specs.Register.{Exact}
use Rattle.afr_heal_machine.specs.declared.outcome.HealOutcome.{HealOutcome}

-- the lowest copy that passes is one that does
lowest_picks : (n : ℕ) → PicksOne n (pick_of n)
lowest_picks n p x l h = go (find n p) refl
  where
    go : (o : Option ℕ) → find n p ≡ o → (lowest o < n) × (p (lowest o) ≡ true)
    go (Some b) e = find_some n p b e
    go None e = absurd (not_both (p x) h (find_none n p e x l))

-- no lines show a heal that begins
pub begins_told : HealBeginsTold
begins_told shape s g kind some few = record {
  at = record {
    unseen = refl;
    missing = λ x l. refl;
    asked = λ x l. refl;
    granted = λ x. refl;
    fresh = λ x e. refl;
    low = λ x h. absurd (cc h);
    unlocked = refl;
    unviewed = λ x l. none x;
    free = refl;
    whole = record { prepared = refl; settling = refl; settled = refl; unsettled = refl };
    none = refl;
  };
  will = λ e. refl;
}
  where
    none : (x : ℕ) → (seen_as (no_lines shape)).first_views x ≡ None
    none zero = refl
    none (suc zero) = refl
    none (suc (suc zero)) = refl
    none (suc (suc (suc zero))) = refl
    none (suc (suc (suc (suc zero)))) = refl
    none (suc (suc (suc (suc (suc x))))) = refl

module _ (stages : StageTells) (notes : NotesStand) (shapes : ShapesKept) where
  -- what the next line leaves, by the exact register that the program's gives
  next_tells : (pick : (ℕ → Bool) → ℕ) (p : Register) (s : ℕ) (g : Gfid) (kind : Kind) (o : HealOutcome) (w : Work) (next : NextOfHeal) → PicksOne p.shape.n pick → Heals p s g kind → HealTells p s g kind o w → next_by p s g kind ≡ next
      → TellsNext pick p.shape (seen_as p) p.seen p.looked s g kind o w next
  next_tells pick p s g kind o w next picks k tells e = subst (TellsNext pick p.shape (seen_as p) p.seen p.looked s g kind o w) e
      (stages pick p.shape (seen_as p) p.seen p.looked s g kind o w k.some k.few picks k.standing (shown_noted p (seen_as p) (self_stands p) k.five) tells)

  module _ (pick : (ℕ → Bool) → ℕ) (p : Register) (s : ℕ) (g : Gfid) (kind : Kind) (o : HealOutcome) (w : Work) (a : ActorId) (b t : ℕ) (request : Request) (told : Told) (took : Bool) (log : List Line)
      (picks : PicksOne p.shape.n pick) (k : Heals p s g kind) (five : HasFive (noted_ask p t b request told)) (next : next_by p s g kind ≡ Ask b request) (fit : fits request told ≡ true) (whole : IsWholeTold told) (tells : HealTells p s g kind o w) where
    abbrev new : Register
    new = noted_ask p t b request told

    abbrev q : Exact
    q = asked_for p.shape.n (keeps_in p.shape) (seen_as p) t b request told

    abbrev seen1 : Looked
    seen1 = seen_next request b told (seen_as p).part p.seen

    abbrev looked1 : Looked
    looked1 = looked_next request b told p.looked

    abbrev source : ℕ
    source = source_next pick p t b request told s

    abbrev w1 : Work
    w1 = (line.Ask a (record { 0 = b }) request told took, log) ∷ w

    there : Stands new q
    there = stands_noted notes p s g kind t b request told k next

    kept : LooksKept p t b told request
    kept = looks_kept p s g kind t b request told k next

    shown : IsShown q seen1 looked1
    shown = subst (λ (looked : Looked). IsShown q seen1 looked) kept.1 (subst (λ (seen : Looked). IsShown q seen new.looked) kept.0 (shown_noted new q there five))

    -- by the exact register, then by what the program keeps of it
    by_exact : Tells p.shape q seen1 looked1 source g kind (outcome_next p.shape (seen_as p) q seen1 looked1 s kind request told o) w1
    by_exact = (next_tells pick p s g kind o w (Ask b request) picks k tells next).0 t told a took log fit whole shown

    by_program : Tells p.shape (seen_as new) seen1 looked1 source g kind (outcome_next p.shape (seen_as p) (seen_as new) seen1 looked1 s kind request told o) w1
    by_program = subst (λ (r : Exact). Tells p.shape r seen1 looked1 source g kind (outcome_next p.shape (seen_as p) r seen1 looked1 s kind request told o) w1) (restyled_is new q there)
        (tells_restyled p.shape q (member new.possible) seen1 looked1 source g kind (outcome_next p.shape (seen_as p) q seen1 looked1 s kind request told o) w1 by_exact)

    by_looks : Tells p.shape (seen_as new) new.seen new.looked source g kind (outcome_next p.shape (seen_as p) (seen_as new) new.seen new.looked s kind request told o) w1
    by_looks =
        subst (λ (looked : Looked). Tells p.shape (seen_as new) new.seen looked source g kind (outcome_next p.shape (seen_as p) (seen_as new) new.seen looked s kind request told o) w1) (sym kept.1)
        (subst (λ (seen : Looked). Tells p.shape (seen_as new) seen looked1 source g kind (outcome_next p.shape (seen_as p) (seen_as new) seen looked1 s kind request told o) w1) (sym kept.0) by_program)

    answered : Tells new.shape (seen_as new) new.seen new.looked source g kind (outcome_next p.shape (seen_as p) (seen_as new) new.seen new.looked s kind request told o) w1
    answered = subst (λ (shape : Shape). Tells shape (seen_as new) new.seen new.looked source g kind (outcome_next p.shape (seen_as p) (seen_as new) new.seen new.looked s kind request told o) w1)
        (sym (shapes p (move.Ask (record { 0 = b }) (record { ref_ptr = (0, 0); now = request })) told t)) by_looks

  -- after one line more, whatever was told
  pub tells_more : HealTellsMore
  tells_more pick p s g kind o w a b t request told took log picks k five next fit whole tells = answered pick p s g kind o w a b t request told took log picks k five next fit whole tells

  -- and after a HealBegin line
  pub tells_begun : HealTellsBegun
  tells_begun p s g kind o w a t log k next tells =
      subst (λ (r : Exact). Tells p.shape r p.seen no_looks s g kind o w1) (restyled_is new q there) (tells_restyled p.shape q (member new.possible) p.seen no_looks s g kind o w1 by_exact)
    where
      new : Register
      new = noted_part p t kind

      q : Exact
      q = begun_at p.shape.n (keeps_in p.shape) (seen_as p) t g kind

      w1 : Work
      w1 = (line.HealBegin a g kind, log) ∷ w

      there : Stands new q
      there = notes p (seen_as p) (move.HealBegin g kind) as_told.Done t k.few k.five tt (self_stands p)

      by_exact : Tells p.shape q p.seen no_looks s g kind o w1
      by_exact = next_tells (pick_of p.shape.n) p s g kind o w Begins (lowest_picks p.shape.n) k tells next t a log

  -- each settling takes back what the first looks showed
  pub settles_seen : HealSettlesSeen
  settles_seen p s g kind o w b request k tells next = (next_tells (pick_of p.shape.n) p s g kind o w (Ask b request) (lowest_picks p.shape.n) k tells next).1

  -- the reply has its cause
  pub ends_well : HealEndsWell
  ends_well p s g kind o w k tells next = next_tells (pick_of p.shape.n) p s g kind o w Ends (lowest_picks p.shape.n) k tells next
