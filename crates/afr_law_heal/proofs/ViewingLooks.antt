-- What the lines of a heal tell while it looks at its copies again, in a later part.
use Rattle.std.proofs.Common.{ℕ, ◌≡◌, ◌<◌, ◌≤◌, ◌&&◌, ◌||◌, ◌==◌, ◌∙◌, if◌then◌else◌, ◌∷◌, Bool, List, None, Option, Some, arith, ap, false, inl, inr, is_some, not, refl, subst, sym, true}
use Rattle.std.proofs.lemmas.Bool.{eqb-true, or_left}
use Rattle.std.proofs.lemmas.Bool.Decides.{eqb_tells}
use Rattle.afr_base.specs.Bricks.{is_nothing, member, minus, removed}
use Rattle.afr_base.specs.SetLemmas.{member_added, member_removed}
use Rattle.afr_base.specs.declared.ids.ActorId.{ActorId}
use Rattle.afr_base.specs.declared.ids.Gfid.{Gfid}
use Rattle.afr_base.specs.declared.ids.Kind.TheVariants.{Bytes}
use Rattle.afr_base.specs.declared.ids.Shape.{Shape}
use Rattle.afr_choice.specs.Looks.{view_at, with_look, without_look}
use Rattle.afr_choice.specs.LooksLemmas.{view_after_other_look}
use Rattle.afr_choice.specs.declared.looked.Looked.{Looked}
use Rattle.afr_discipline.specs.Turns.{candidate}
use Rattle.afr_heal.proofs.Finding.{over_asked}
use Rattle.afr_heal.proofs.KeptViews.{looks_there}
use Rattle.afr_heal.proofs.Parts.{both, not_both, or_true, pair}
use Rattle.afr_heal.proofs.StagesForms.{shape as formed}
use Rattle.afr_heal.specs.Engine.{has_part}
use Rattle.afr_law_heal.proofs.PartingEnds.{late_reply, moved_seen, moved_unseen, not_settled, source_found}
use Rattle.afr_law_heal.proofs.PartingLemmas.{nothing_left, or_last, some_left}
use Rattle.afr_law_heal.proofs.PartingLocks.{ends_told, in_looks, still_tells}
use Rattle.afr_law_heal.proofs.ViewingMoved.{goes_unmoved}
use Rattle.afr_law_heal.specs.HealTelling.{Tells}
use Rattle.afr_law_heal.specs.Stages.{IsReached, IsShown, TellsAfter}
use Rattle.afr_lines.specs.Work.{Work}
use Rattle.afr_lines.specs.declared.answer.Told.{Told}
use Rattle.afr_lines.specs.declared.line.Line.{Line}
use Rattle.afr_lines.specs.declared.line.Line.TheVariants as line
use Rattle.afr_lines.specs.declared.reply.HealReply.TheVariants as healed
use Rattle.afr_lines.specs.declared.request.Area.{Area}
use Rattle.afr_lines.specs.declared.request.Request.TheVariants.{Look}
use Rattle.afr_model.specs.HealReplies.{IsHealAnswered, IsHealAsked}
use Rattle.afr_model.specs.Healing.{first_by, settled_at, source_of, whole_of}
use Rattle.afr_model.specs.Showing.{among, is_fault, look_shows, looked_by}
use Rattle.afr_model.specs.Standing.{asking}
use Rattle.afr_model_moves.proofs.Tests.{same_self, some_no}
use Rattle.afr_model_moves.specs.Keeps.{keeps_in}
use Rattle.afr_model_moves.specs.Note.{stopping, stops_at}
use Rattle.afr_model_moves.specs.Register.{Exact, HealPart, Looks, good, holder, is_finish, is_opening, over}
use Rattle.afr_model_moves.specs.Rules.{Register}
use Rattle.afr_model_moves.specs.Sets.{any, with}
use Rattle.afr_model_moves.specs.Steps.{goes_on_at, looks_at}
use Rattle.afr_object.specs.declared.entry.View.{View}
use Rattle.afr_heal_machine.specs.Outcome.{by_mover, mover, outcome_after, reply_of}
use Rattle.afr_heal_machine.specs.declared.outcome.HealOutcome.{HealOutcome}
use Rattle.afr_heal_machine.specs.declared.outcome.HealOutcome.TheVariants.{Settled}

module _ (shape : Shape) (q : Exact) (part : HealPart) (later : is_opening part ≡ false) (s : ℕ) (g : Gfid) (area : Area) (seen looked : Looked) (w : Work) where
  abbrev r : Exact
  r = formed q Looks part g Bytes (Some area)

  module _ (before : IsShown r seen looked) (k : TellsAfter shape r seen looked s g Bytes w) (few : shape.n ≤ 5) (below : s < shape.n) (is_good : good shape.n (keeps_in shape) Bytes q.first_views s ≡ true) where
    source_parts : (holder q.first_views s ≡ true) × (keeps_in shape s Bytes ≡ true)
    source_parts = both (holder q.first_views s) (keeps_in shape s Bytes) (both _ _ is_good).0

    source_view : holder (λ y. view_at y seen) s ≡ true
    source_view = let e = before.first_views in subst (λ (views : ℕ → Option View). holder views s ≡ true) e source_parts.0

    none_settled : member (among settled_at w) s ≡ false
    none_settled = k.closed s below ∙ k.closing s below ∙ last_off (not (has_part Bytes part)) (holder q.first_views s)
      where
        last_off : (a b : Bool) → ((a && b) && false) ≡ false
        last_off true true = refl
        last_off true false = refl
        last_off false b = refl

    quiet : (first_by w).still ≡ false
    quiet = k.still later

    module _ (a : ActorId) (b : ℕ) (told : Told) (took : Bool) (log : List Line) (there : q.first_reached b ≡ true) where
      abbrev w1 : Work
      w1 = (line.Ask a (record { 0 = b }) (Look g) told took, log) ∷ w

      looked_now : (after : Looked) → look_shows b told looked ≡ after → looked_by g w1 ≡ after
      looked_now after e = let was : looked_by g w ≡ looked = k.again later in rw (same_self g.0, was) e

      asked_well : IsHealAsked shape g Bytes w1
      asked_well = record { locked = k.asked; worked = λ most x m. or_last (member (among (asking (whole_of g Bytes)) w) x) (is_finish part) _ (k.worked x m); looked = λ most x m. rw (quiet, k.first) (k.watched x m) }

      -- a failed look ends the heal
      pub look_fails : is_fault told ≡ true → look_shows b told looked ≡ without_look b looked → IsHealAnswered shape g Bytes w1 healed.Failed
      look_fails fault e = record {
        caused = late_reply shape g Bytes w1 (rw k.free refl) (rw quiet k.none) (not_settled shape seen k.shown w1 s (rw quiet k.first) (omega (arith, below, few)) source_view none_settled) None (moved_unseen shape g Bytes w1 unseen);
        failed = λ h. rw (quiet, k.begun, fault) refl;
        asked = λ h. asked_well;
      }
        where
          was_reached : member seen.reached b ≡ true
          was_reached = let e = before.first_reached in subst (λ (set : ℕ → Bool). set b ≡ true) e there

          unseen : is_nothing (minus (first_by w1).looked.reached (looked_by g w1).reached) ≡ false
          unseen = rw (looked_now (without_look b looked) e, quiet, k.first) (some_left seen.reached (removed b looked.reached) b was_reached (member_removed b looked.reached b ∙ rw (same_self b) refl))

      module _ (low : b < shape.n) (v : Option View) (answered : look_shows b told looked ≡ with_look b v looked) where
        abbrev looked1 : Looked
        looked1 = with_look b v looked

        was : IsReached looked × ((x : ℕ) → member looked.reached x ≡ true → x < shape.n) × ((x : ℕ) → q.asked x ≡ true → member looked.reached x ≡ true)
        was = k.present later refl

        reached_more : (x : ℕ) → member looked.reached x ≡ true → member looked1.reached x ≡ true
        reached_more x m = member_added b looked.reached x ∙ rw m (or_true (b == x))

        -- the present looks with one more
        now_shown : IsReached looked1
        now_shown x h = elim (eqb_tells b x) [
          | inl e ↦ member_added b looked.reached x ∙ rw e.0 refl
          | inr e ↦ (let d = e.1 in reached_more x (was.0 x (subst (λ (view : Option View). is_some view ≡ true) (view_after_other_look b x v looked (λ f. d (sym f))) h)))
        ]

        now_low : (x : ℕ) → member looked1.reached x ≡ true → x < shape.n
        now_low x m = go (b == x) refl (sym (member_added b looked.reached x) ∙ m)
          where
            go : (e : Bool) → (b == x) ≡ e → (e || member looked.reached x) ≡ true → x < shape.n
            go true e h = subst (λ (y : ℕ). y < shape.n) (eqb-true b x e) low
            go false e h = was.1 x h

        now_asked : (x : ℕ) → with q.asked b x ≡ true → member looked1.reached x ≡ true
        now_asked x = go (x == b) refl
          where
            go : (e : Bool) → (x == b) ≡ e → (if e then true else q.asked x) ≡ true → member looked1.reached x ≡ true
            go true e h = let is : x ≡ b = eqb-true x b e in member_added b looked.reached x ∙ rw is (or_left (b == b) (member looked.reached b) (same_self b))
            go false e h = reached_more x (was.2 x h)

        -- the lines with one look more
        look_tells : (reached possible : ℕ → Bool) (views : ℕ → Option View) (broken : Bool) (law : Register)
            → TellsAfter shape (record r { asked = with q.asked b; reached = reached; views = views; possible = possible; broken = broken; law = law }) seen looked1 s g Bytes w1
        look_tells reached possible views broken law = record {
          begun = rw quiet k.begun;
          still = λ e. rw quiet refl;
          missing = λ x l. rw quiet (k.missing x l);
          first = rw quiet k.first;
          none = rw quiet k.none;
          low = k.low;
          shown = k.shown;
          numbers = k.numbers;
          free = rw k.free refl;
          asked = k.asked;
          worked = λ x m. or_left _ _ (or_last (member (among (asking (whole_of g Bytes)) w) x) (is_finish part) _ (k.worked x m));
          watched = λ x m. rw quiet (k.watched x m);
          opened = k.opened;
          closing = k.closing;
          closed = k.closed;
          unsettled = k.unsettled;
          one = λ e. absurd (not_both (is_opening part) e later);
          some = k.some;
          more = k.more;
          again = λ e. looked_now looked1 answered;
          finish = k.finish;
          parted = λ e f. absurd (cc f);
          present = λ e f. (now_shown, now_low, now_asked);
        }

        -- the copy on which the heal raised no number is the source
        source_is : source_of shape Bytes w1 ≡ s
        source_is = source_found shape seen k.shown w1 s few (rw quiet k.first) k.low below source_view source_parts.1 (λ x l. k.opened x l ∙ raised x)
          where
            all_of : (x c o : Bool) → o ≡ false → (x && (not o || c)) ≡ x
            all_of true c o e = rw e refl
            all_of false c o e = refl

            raised : (x : ℕ) → ((holder q.first_views x && not (x == s) && keeps_in shape x Bytes) && (not (is_opening part) || false)) ≡ (holder (λ y. view_at y seen) x && not (x == s) && keeps_in shape x Bytes)
            raised x = all_of (holder q.first_views x && not (x == s) && keeps_in shape x Bytes) false (is_opening part) later ∙ (let e = before.first_views in ap (λ (views : ℕ → Option View). holder views x && not (x == s) && keeps_in shape x Bytes) e)

        -- once all were looked at again, who shows that the source moved is named
        last_reply : over shape.n q.first_reached (with q.asked b) ≡ true → (m : Option ℕ) → mover shape Bytes part s seen looked1 ≡ m → (m ≡ None → ⊥) → IsHealAnswered shape g Bytes w1 (reply_of (by_mover m) seen)
        last_reply all None e some = absurd (some refl)
        last_reply all (Some x) e some = record {
          caused = late_reply shape g Bytes w1 (rw k.free refl) (rw quiet k.none) (not_settled shape seen k.shown w1 s (rw quiet k.first) (omega (arith, below, few)) source_view none_settled) (Some x)
              (moved_seen shape g Bytes w1 s seen looked1 (is_finish part) (k.more later refl) (rw quiet k.first) (looked_now looked1 answered) all_again source_is (k.finish later) ∙ e);
          failed = λ h. absurd (cc h);
          asked = λ h. asked_well;
        }
          where
            all_again : is_nothing (minus seen.reached looked1.reached) ≡ true
            all_again = nothing_left seen.reached looked1.reached (λ x m.
                let first : q.first_reached x ≡ true = (let e = before.first_reached in subst (λ (set : ℕ → Bool). set x ≡ true) (sym e) m) in
                now_asked x (over_asked shape.n q.first_reached (with q.asked b) all x (k.low x m) first))

        -- ---- the register after it
        module _ (reached possible : ℕ → Bool) (views : ℕ → Option View) (law : Register) (may : possible s ≡ true) (is_kind : law.kind ≡ Bytes) where
          abbrev r0 : Exact
          r0 = record r { asked = with q.asked b; reached = reached; views = views; possible = possible; law = law }

          -- the looks stop the heal where the source doesn't let it go on
          stopped : stops_at shape.n (keeps_in shape) r0 Looks ≡ true → (over shape.n q.first_reached (with q.asked b) ≡ true) × (goes_on_at shape.n (keeps_in shape) r0 s part ≡ true → ⊥)
          stopped e =
              let two = both (over shape.n (looks_at r0 part) (with q.asked b)) (not (any shape.n (candidate shape.n (keeps_in shape) r0))) e in (
                subst (λ (set : ℕ → Bool). over shape.n set (with q.asked b) ≡ true) (looks_there r0 part later) two.0,
                λ goes. none (any shape.n (candidate shape.n (keeps_in shape) r0)) two.1 (some_no shape.n (candidate shape.n (keeps_in shape) r0) s below (pair (possible s) _ may (pair _ (goes_on_at shape.n (keeps_in shape) r0 s part) (rw is_kind is_good) goes))),
              )
            where
              none : (f : Bool) → not f ≡ true → f ≡ true → ⊥
              none true h e = cc h
              none false h e = cc e

          -- a look that was answered: the heal goes on, or the source has moved
          pub look_answered : (o caused : HealOutcome) → o ≡ Settled → caused ≡ by_mover (mover shape Bytes part s seen looked1) → views ≡ (λ x. view_at x looked1)
              → (let r1 = stopping shape.n (keeps_in shape) r0 in Tells shape r1 seen looked1 s g Bytes (outcome_after false r1.broken o caused) w1)
          look_answered o caused settled of_cause now = go (stops_at shape.n (keeps_in shape) r0 Looks) refl
            where
              r1 : Exact
              r1 = stopping shape.n (keeps_in shape) r0

              go : (f : Bool) → stops_at shape.n (keeps_in shape) r0 Looks ≡ f → Tells shape r1 seen looked1 s g Bytes (outcome_after false r1.broken o caused) w1
              go true e = ends_told shape r1 seen looked1 s g Bytes o caused w1 e (rw of_cause (last_reply (stopped e).0 (mover shape Bytes part s seen looked1) refl
                  (λ none. (stopped e).1 (goes_unmoved shape r0 part seen looked1 s few k.shown now_shown is_kind before.first_views now later none))))
              go false e = still_tells shape r1 seen looked1 s g Bytes o caused w1 e settled (in_looks shape r1 part seen looked1 s g Bytes (outcome_after false r1.broken o caused) w1 later (look_tells reached possible views r1.broken law))
