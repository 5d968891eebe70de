-- A heal after the looks of a part: what its lines tell after each next line, and that its reply has its cause.
use Rattle.std.proofs.Common.{◌≡◌, ℕ, ◌<◌, ◌≤◌, nat_lt, Bool, true, false, List, ◌∷◌, refl, sym, ◌∙◌, subst, arith, if◌then◌else◌}
use Rattle.std.proofs.lemmas.Bool.Decides.{nat_tests}
use Rattle.afr_base.specs.Bricks.{member}
use Rattle.afr_base.specs.declared.ids.ActorId.{ActorId}
use Rattle.afr_base.specs.declared.ids.Gfid.{Gfid}
use Rattle.afr_base.specs.declared.ids.Kind.{Kind}
use Rattle.afr_base.specs.declared.ids.Shape.{Shape}
use Rattle.afr_choice.specs.declared.looked.Looked.{Looked}
use Rattle.afr_heal.proofs.Parts.{both, not_both}
use Rattle.afr_heal.proofs.StagesForms.{going_at, going_form}
use Rattle.afr_heal.proofs.StagesWalk.{after_elim, past_heal}
use Rattle.afr_heal.specs.Answers.{asked_for, fits, source_after}
use Rattle.afr_heal.specs.Engine.{has_part, next_of}
use Rattle.afr_heal.specs.Standing.{AfterLooks}
use Rattle.afr_law_heal.proofs.GoingAfter.{is_behind, source_copy}
use Rattle.afr_law_heal.proofs.GoingFails.{falls, settles_well}
use Rattle.afr_law_heal.proofs.GoingLines.{SameFolds, quiet}
use Rattle.afr_law_heal.proofs.GoingPart.{part_tells}
use Rattle.afr_law_heal.proofs.GoingStart.{going_after}
use Rattle.afr_law_heal.proofs.GoingSteps.{mends_tell, passes, pres_after, pres_tell, reads_tell, settle_after, settled_part, settles_tell, unsettled_part}
use Rattle.afr_law_heal.proofs.OverTells.{reply_stands}
use Rattle.afr_law_heal.proofs.StageLaws.{TellsNext, outcome_next}
use Rattle.afr_law_heal.specs.HealTelling.{Tells}
use Rattle.afr_law_heal.specs.Stages.{IsShown, TellsAfter}
use Rattle.afr_lines.specs.Work.{Work}
use Rattle.afr_lines.specs.declared.answer.Told.{Told}
use Rattle.afr_lines.specs.declared.answer.Told.TheVariants as as_told
use Rattle.afr_lines.specs.declared.line.Line.{Line}
use Rattle.afr_lines.specs.declared.line.Line.TheVariants as line
use Rattle.afr_lines.specs.declared.reply.HealReply.TheVariants as healed
use Rattle.afr_lines.specs.declared.request.Area.{Area}
use Rattle.afr_lines.specs.declared.request.Request.TheVariants.{Unlock}
use Rattle.afr_model.specs.Healing.{settled_at}
use Rattle.afr_model.specs.HealReplies.{IsHealAnswered}
use Rattle.afr_model.specs.Showing.{among}
use Rattle.afr_model_moves.specs.Keeps.{keeps_in}
use Rattle.afr_model_moves.specs.Register.{Exact, HealPres, HealUnlocks, Settles, Unlocks, holder, rank}
use Rattle.afr_model_moves.specs.Rules.{heal_area}
use Rattle.afr_model_moves.specs.Steps.{mends_over, passed, pres_over, reads_over, settles_over}
use Rattle.afr_lines.specs.declared.lock.Domain.{Domain}
use Rattle.afr_lines.specs.declared.lock.Domain.TheVariants.{Heal, Work as WorkDomain}
use Rattle.afr_heal_machine.specs.Outcome.{reply_of}
use Rattle.afr_heal_machine.specs.declared.outcome.HealOutcome.{HealOutcome}
use Rattle.afr_heal_machine.specs.declared.outcome.HealOutcome.TheVariants.{Failed, Settled}

module _ (shape : Shape) (few : shape.n ≤ 5) (p : Exact) (seen looked : Looked) (s : ℕ) (g : Gfid) (kind : Kind) (area : Area) where
  abbrev n : ℕ
  n = shape.n

  abbrev keeps : ℕ → Kind → Bool
  keeps = keeps_in shape

  abbrev r : Exact
  r = going_at p g kind area

  module _ (k : AfterLooks n keeps r s g kind) (w : Work) (shown : IsShown r seen looked) (ta : TellsAfter shape r seen looked s g kind w) (pick : (ℕ → Bool) → ℕ) (o : HealOutcome) (will : o ≡ Settled) where
    -- ---- the locks are given back
    module _ (over : settles_over n keeps r s ≡ true) (b at : ℕ) (a : ActorId) (took : Bool) (log : List Line) where
      abbrev v : Domain → Area → Told → Work
      v domain here told = (line.Ask a (record { 0 = b }) (Unlock domain here) told took, log) ∷ w

      abbrev Leaves : Domain → Area → Told → Exact → Type 0
      Leaves domain here told q = Tells shape q seen looked (source_after n keeps pick q s) g kind (outcome_next shape r q seen looked s kind (Unlock domain here) told o) (v domain here told)

      same : (domain : Domain) (here : Area) (told : Told) → SameFolds g kind (v domain here told) w
      same domain here told = quiet g kind w a (record { 0 = b }) told took log (Unlock domain here) refl

      settled : passed n keeps r s Settles ≡ true
      settled = (both (mends_over n keeps r s) (passed n keeps r s Settles) over).1

      raised : passed n keeps r s HealPres ≡ true
      raised = (both (reads_over n keeps r s) (passed n keeps r s HealPres) (both (pres_over n keeps r s) _ (both (mends_over n keeps r s) _ over).0).0).1

      -- a session that ended breaks the heal, but once it is settled its reply stands
      gone : (domain : Domain) (here : Area) → IsHealAnswered shape g kind (v domain here as_told.NotConnected) (reply_of (if has_part kind p.part then Failed else Settled) seen)
      gone domain here = by (has_part kind p.part) refl
        where
          by : (f : Bool) → has_part kind p.part ≡ f → IsHealAnswered shape g kind (v domain here as_told.NotConnected) (reply_of (if f then Failed else Settled) seen)
          by true e = falls shape few p seen looked s g kind area k w shown ta _ (same domain here as_told.NotConnected) refl s k.below (source_copy shape few p seen looked s g kind area k).0
              (unsettled_part shape few p seen looked s g kind area k w shown ta e s k.below) (rw (ta.begun, ta.unsettled e) refl)
          by false e = reply_stands shape g kind w healed.Settled a (record { 0 = b }) domain here as_told.NotConnected took log
              (settles_well shape few p seen looked s g kind area k w shown ta (settled_part shape few p seen looked s g kind area k w shown ta settled e))

      -- a Work lock
      unlock_told : (told : Told) → fits (Unlock WorkDomain area) told ≡ true → Leaves WorkDomain area told (asked_for n keeps r at b (Unlock WorkDomain area) told)
      unlock_told as_told.Done f = record {
        at = passes shape few p seen looked s g kind area k w shown ta _ (same WorkDomain area as_told.Done) _ Unlocks _ _ _ _ _ refl refl refl refl refl refl
            (pres_after shape few p seen looked s g kind area k w shown ta raised) (settle_after shape few p seen looked s g kind area k w shown ta settled);
        will = λ h. will;
      }
      unlock_told as_told.Failed f = record {
        at = passes shape few p seen looked s g kind area k w shown ta _ (same WorkDomain area as_told.Failed) _ Unlocks _ _ _ _ _ refl refl refl refl refl refl
            (pres_after shape few p seen looked s g kind area k w shown ta raised) (settle_after shape few p seen looked s g kind area k w shown ta settled);
        will = λ h. will;
      }
      unlock_told as_told.NotConnected f = record { at = gone WorkDomain area; will = λ h. absurd (cc h) }
      unlock_told _ f = absurd (cc f)

      -- a Heal lock
      heal_told : (told : Told) → fits (Unlock Heal (heal_area g.0)) told ≡ true → Leaves Heal (heal_area g.0) told (asked_for n keeps r at b (Unlock Heal (heal_area g.0)) told)
      heal_told as_told.Done f = record {
        at = passes shape few p seen looked s g kind area k w shown ta _ (same Heal (heal_area g.0) as_told.Done) _ HealUnlocks _ _ _ _ _ refl refl refl refl refl refl
            (pres_after shape few p seen looked s g kind area k w shown ta raised) (settle_after shape few p seen looked s g kind area k w shown ta settled);
        will = λ h. will;
      }
      heal_told as_told.Failed f = record {
        at = passes shape few p seen looked s g kind area k w shown ta _ (same Heal (heal_area g.0) as_told.Failed) _ HealUnlocks _ _ _ _ _ refl refl refl refl refl refl
            (pres_after shape few p seen looked s g kind area k w shown ta raised) (settle_after shape few p seen looked s g kind area k w shown ta settled);
        will = λ h. will;
      }
      heal_told as_told.NotConnected f = record { at = gone Heal (heal_area g.0); will = λ h. absurd (cc h) }
      heal_told _ f = absurd (cc f)

    -- ---- the end
    ends_tell : passed n keeps r s HealUnlocks ≡ true → IsHealAnswered shape g kind w (reply_of o seen)
    ends_tell u = subst (λ (o : HealOutcome). IsHealAnswered shape g kind w (reply_of o seen)) (sym will) (settles_well shape few p seen looked s g kind area k w shown ta all)
      where
        last : nat_lt (rank r.step) 13 ≡ false
        last = past_heal n keeps r s g kind k u

        no_part : has_part kind p.part ≡ false
        no_part = by (has_part kind p.part) refl
          where
            by : (f : Bool) → has_part kind p.part ≡ f → f ≡ false
            by true e = absurd (not_both (nat_lt (rank r.step) 13) (k.parts e) last)
            by false e = refl

        late : nat_lt (rank Settles) (rank r.step) ≡ true
        late = grind (arith, nat_tests, last)

        all : (x : ℕ) → x < n → holder r.first_views x ≡ true → member (among settled_at w) x ≡ true
        all x l held = ta.closed x l ∙ ta.closing x l ∙ rw (no_part, held, is_behind r Settles x late) refl

    -- ---- the next line
    going_next : TellsNext pick shape r seen looked s g kind o w (next_of n keeps r s g kind)
    going_next = after_elim n keeps r s g kind k (TellsNext pick shape r seen looked s g kind o w)
        (reads_tell shape few p seen looked s g kind area k w shown ta pick o will)
        (λ over b l t. pres_tell shape few p seen looked s g kind area k w shown ta pick o will b l t)
        (mends_tell shape few p seen looked s g kind area k w shown ta pick o will)
        (settles_tell shape few p seen looked s g kind area k w shown ta pick o will)
        (λ over b l t. (λ at told a took log f whole after. unlock_told over b at a took log told f, tt))
        (part_tells shape few p seen looked s g kind area k w shown ta pick o will)
        (λ over u last b l t. (λ at told a took log f whole after. heal_told over b at a took log told f, tt))
        (λ u h. ends_tell h)

-- the case of a heal whose looks are over
pub going_tells : (pick : (ℕ → Bool) → ℕ) (shape : Shape) (r : Exact) (seen looked : Looked) (s : ℕ) (g : Gfid) (kind : Kind) (o : HealOutcome) (w : Work)
    → shape.n ≤ 5 → AfterLooks shape.n (keeps_in shape) r s g kind → IsShown r seen looked → Tells shape r seen looked s g kind o w
    → TellsNext pick shape r seen looked s g kind o w (next_of shape.n (keeps_in shape) r s g kind)
going_tells pick shape r seen looked s g kind o w few k shown tells =
    subst Case (sym (going_form shape.n (keeps_in shape) r s g kind k)) there k shown tells
  where
    Case : Exact → Type 0
    Case x = AfterLooks shape.n (keeps_in shape) x s g kind → IsShown x seen looked → Tells shape x seen looked s g kind o w → TellsNext pick shape x seen looked s g kind o w (next_of shape.n (keeps_in shape) x s g kind)

    there : Case (going_at r g kind k.area)
    there c h t = going_next shape few r seen looked s g kind k.area c w h (going_after shape few r seen looked s g kind k.area c w h o t.at) pick o (t.will refl)
