-- When the first looks let a heal go on, its lines tell what they tell after them.
use Rattle.std.proofs.Common.{◌≡◌, ℕ, ◌<◌, ◌≤◌, ◌&&◌, ◌||◌, not, nat_le, Bool, true, false, refl, sym, ◌∙◌, subst, None, Option}
use Rattle.afr_base.specs.Bricks.{member}
use Rattle.afr_base.specs.Majority.{is_most}
use Rattle.afr_base.specs.declared.ids.Gfid.{Gfid}
use Rattle.afr_base.specs.declared.ids.Kind.{Kind}
use Rattle.afr_base.specs.declared.ids.Shape.{Shape}
use Rattle.afr_choice.specs.declared.looked.Looked.{Looked}
use Rattle.afr_heal.specs.Engine.{has_part}
use Rattle.afr_heal.specs.Standing.{AfterLooks}
use Rattle.afr_heal.proofs.Finding.{over_asked}
use Rattle.afr_law_heal.proofs.GoingLooks.{and_false, first_goes}
use Rattle.afr_heal.proofs.Parts.{both, not_both}
use Rattle.afr_heal.proofs.StagesForms.{going_at}
use Rattle.afr_law_heal.specs.HealTelling.{TellsAt}
use Rattle.afr_law_heal.specs.Stages.{IsShown, TellsAfter, TellsLooks, raises}
use Rattle.afr_lines.specs.Work.{Work}
use Rattle.afr_lines.specs.declared.request.Area.{Area}
use Rattle.afr_model.specs.Healing.{first_by}
use Rattle.afr_model.specs.HealReplies.{by_first}
use Rattle.afr_model_moves.specs.Keeps.{keeps_in}
use Rattle.afr_model_moves.specs.Register.{Exact, Finish, HealLocks, HealPart, Looks, Opening, Piece, Step, Untouched, WorkLocks, good, holder, is_opening, over, rank, shows_number}
use Rattle.afr_model_moves.specs.Sets.{any}
use Rattle.afr_model_moves.specs.Steps.{goes_on_at, passed}
use Rattle.afr_object.specs.declared.entry.View.{View}
use Rattle.afr_heal_machine.specs.declared.outcome.HealOutcome.{HealOutcome}

module _ (shape : Shape) (few : shape.n ≤ 5) (p : Exact) (seen looked : Looked) (s : ℕ) (g : Gfid) (kind : Kind) (area : Area) where
  abbrev n : ℕ
  n = shape.n

  abbrev keeps : ℕ → Kind → Bool
  keeps = keeps_in shape

  abbrev r : Exact
  r = going_at p g kind area

  module _ (k : AfterLooks n keeps r s g kind) (w : Work) (shown : IsShown r seen looked) where
    -- the first looks are over
    module _ (at : p.step ≡ Looks) (opening : p.part ≡ Opening) (t : TellsLooks shape r seen g kind w) where
      all_looked : over n r.law.held p.asked ≡ true
      all_looked = rw (at, opening) at (both (nat_le 7 (rank r.step)) (passed n keeps r s Looks) k.looked).1

      -- who holds the lock was asked
      none_left : (x : ℕ) → x < n → (r.law.held x && not (p.asked x)) ≡ false
      none_left x l = go (r.law.held x) refl
        where
          go : (f : Bool) → r.law.held x ≡ f → (f && not (p.asked x)) ≡ false
          go false e = refl
          go true e = rw (over_asked n r.law.held p.asked all_looked x l e) refl

      missing_now : (x : ℕ) → x < n → member (first_by w).missing x ≡ not (member seen.reached x)
      missing_now x l = t.missing x l ∙ rw (none_left x l) (plain (member seen.reached x))
        where
          plain : (m : Bool) → not (m || false) ≡ not m
          plain true = refl
          plain false = refl

      goes_here : (is_most n r.first_reached && is_most n (holder r.first_views) && any n (λ x. shows_number kind (r.first_views x))) ≡ true
      goes_here = rw opening at (both (good n keeps kind r.first_views s) (goes_on_at n keeps r s p.part) k.onwards).1

      looked_seen : (first_by w).looked ≡ seen
      looked_seen = rw t.first refl

      lets_go : by_first shape kind (first_by w) ≡ None
      lets_go =
          let last = both (is_most n r.first_reached && is_most n (holder r.first_views)) _ goes_here in
          let two = both (is_most n r.first_reached) (is_most n (holder r.first_views)) last.0 in
          first_goes shape seen few t.low t.shown kind (first_by w) s k.below looked_seen missing_now
          (subst (λ (f : ℕ → Bool). is_most n f ≡ true) shown.first_reached two.0)
          (subst (λ (f : ℕ → Option View). is_most n (holder f) ≡ true) shown.first_views two.1)
          (subst (λ (f : ℕ → Option View). any n (λ x. shows_number kind (f x)) ≡ true) shown.first_views last.1)
          (subst (λ (f : ℕ → Option View). good n keeps kind f s ≡ true) shown.first_views (both (good n keeps kind r.first_views s) _ k.onwards).0)

      pub looks_over_tell : TellsAfter shape r seen looked s g kind w
      looks_over_tell = record {
        begun = rw t.first refl;
        still = λ h. absurd (not_both (is_opening p.part) (rw opening refl) h);
        missing = missing_now;
        first = looked_seen;
        none = lets_go;
        low = t.low;
        shown = t.shown;
        numbers = t.numbers;
        free = t.free;
        asked = t.asked;
        worked = λ x h. rw (t.worked x h) refl;
        watched = λ x h. (let l = t.locked x h in rw (missing_now x l.0) (tidy (member seen.reached x)));
        opened = λ x l. rw (t.whole.prepared, opening, at) (sym (and_false (raises shape r s kind x)));
        closing = λ x l. rw (t.whole.settling, at) (sym (and_false (not (has_part kind p.part) && holder r.first_views x)));
        closed = λ x l. rw (t.whole.settled, t.whole.settling) refl;
        unsettled = λ h. t.whole.unsettled;
        one = λ h. t.one;
        some = rw t.one refl;
        more = λ h e. absurd (later h);
        again = λ h. absurd (later h);
        finish = λ h. absurd (later h);
        parted = λ h e area is. absurd (later h);
        present = λ h e. absurd (later h);
      }
        where
          later : is_opening p.part ≡ false → ⊥
          later h = not_both (is_opening p.part) (rw opening refl) h

          tidy : (m : Bool) → (m || not m) ≡ true
          tidy true = refl
          tidy false = refl

    -- what the lines tell
    pub going_after : (o : HealOutcome) → TellsAt false r.step r.part shape r seen looked s g kind o w → TellsAfter shape r seen looked s g kind w
    going_after o h = by p.step p.part refl refl h
      where
        high : nat_le 7 (rank r.step) ≡ true
        high = (both (nat_le 7 (rank r.step)) (passed n keeps r s Looks) k.looked).0

        by : (step : Step) (part : HealPart) → p.step ≡ step → p.part ≡ part → TellsAt false step part shape r seen looked s g kind o w → TellsAfter shape r seen looked s g kind w
        by Untouched part e f h = absurd (cc (rw e at high))
        by HealLocks part e f h = absurd (cc (rw e at high))
        by WorkLocks part e f h = absurd (cc (rw e at high))
        by Looks Opening e f h = looks_over_tell e f h
        by Looks Piece e f h = h
        by Looks Finish e f h = h
        by _ part e f h = h
