-- A heal keeps standing while it asks the Work locks of its opening, and at its first HealBegin.
use Rattle.std.proofs.Common.{ℕ, ◌≡◌, ◌<◌, ◌&&◌, Bool, Some, false, refl, true}
use Rattle.afr_base.specs.declared.ids.Gfid.{Gfid}
use Rattle.afr_base.specs.declared.ids.Kind.{Kind}
use Rattle.afr_heal.proofs.Finding.{over_asked, turn_set}
use Rattle.afr_heal.proofs.KeptBroken.{KeepsAt}
use Rattle.afr_heal.proofs.KeptHealLocks.{worked}
use Rattle.afr_heal.proofs.Parts.{not_both, pair, some_of_most, with_sub, without_both, without_no}
use Rattle.afr_heal.proofs.StagesAllowed.{enough_work, lock_ok}
use Rattle.afr_heal.proofs.StagesForms.{granting_by, locking_by, shape, work_at}
use Rattle.afr_heal.proofs.StagesWalk.{lock_elim}
use Rattle.afr_heal.specs.Answers.{asked_for, fits, source_after}
use Rattle.afr_heal.specs.Engine.{Begins}
use Rattle.afr_heal.specs.Laws.{Keeps}
use Rattle.afr_heal.specs.Standing.{AtWork, Looking, Standing}
use Rattle.afr_lines.specs.declared.answer.Told.{Told}
use Rattle.afr_lines.specs.declared.request.Area.{Area}
use Rattle.afr_lines.specs.declared.request.Request.TheVariants.{Lock}
use Rattle.afr_model_moves.specs.Register.{Exact, Opening, WorkLocks, over, whole_area}
use Rattle.afr_model_moves.specs.Rules.{busy, is_area}
use Rattle.afr_model_moves.specs.Sets.{empty, with}
use Rattle.afr_model_moves.specs.Steps.{locks_at, may_heal, turn}
use Rattle.afr_lines.specs.declared.lock.Domain.TheVariants.{Work}
use Rattle.afr_lines.specs.declared.answer.Told.TheVariants as as_told
use Rattle.afr_model_moves.specs.Rules as weak
use Rattle.afr_model_moves.proofs.AreaLemmas.{same_area_self}

module _ (n : ℕ) (keeps : ℕ → Kind → Bool) (pick : (ℕ → Bool) → ℕ) (q : Exact) (s : ℕ) (g : Gfid) (kind : Kind) (k : AtWork n keeps (shape q WorkLocks Opening g q.law.kind (Some (whole_area g.0 kind))) g kind) where
  abbrev r : Exact
  r = shape q WorkLocks Opening g q.law.kind (Some (whole_area g.0 kind))

  module _ (b at : ℕ) (t : turn n keeps r s WorkLocks b ≡ true) where
    abbrev here : Area
    here = whole_area g.0 kind

    every_work : (x : ℕ) → x < n → (r.possible x && may_heal n keeps r x b (Lock Work here)) ≡ true
    every_work x l = pair _ _ (k.every x l) (lock_ok n keeps r s g kind x here refl refl b t)

    is_healing : q.law.healing b ≡ true
    is_healing = turn_set n keeps r s WorkLocks b t

    abbrev may_work : ℕ → Bool
    may_work x = r.possible x && may_heal n keeps r x b (Lock Work here)

    work_granted : (w own : Bool) → own ≡ true → Standing n keeps (work_at n keeps r (with q.asked b) may_work (granting_by w own r.law here b)) s g kind
    work_granted true true e = worked n keeps r s g kind (with q.asked b) may_work _ (record { inside = refl; is_object = refl; no_second = k.base.no_second }) every_work (λ x. with_sub q.law.held q.law.healing b x is_healing (k.among x)) refl k.none_first
    work_granted false true e = worked n keeps r s g kind (with q.asked b) may_work _ (record { inside = refl; is_object = refl; no_second = λ x. refl }) every_work (λ x. with_sub empty q.law.healing b x is_healing (λ e. absurd (cc e))) refl k.none_first
    work_granted w false e = absurd (cc e)

    work_refused : (w own : Bool) (asked : ℕ → Bool) → own ≡ true → Standing n keeps (work_at n keeps r asked may_work (locking_by w own r.law here)) s g kind
    work_refused true true asked e = worked n keeps r s g kind asked may_work _ (record { inside = refl; is_object = refl; no_second = k.base.no_second }) every_work k.among refl k.none_first
    work_refused false true asked e = worked n keeps r s g kind asked may_work _ (record { inside = refl; is_object = refl; no_second = λ x. refl }) every_work (λ x e. absurd (cc e)) refl k.none_first
    work_refused w false asked e = absurd (cc e)

    work_gone : (w own : Bool) → own ≡ true → Standing n keeps (work_at n keeps r (with q.asked b) may_work (weak.dropping true b (locking_by w own r.law here))) s g kind
    work_gone true true e = worked n keeps r s g kind (with q.asked b) may_work _ (record { inside = refl; is_object = refl; no_second = λ x. without_no q.law.second_held b x (k.base.no_second x) }) every_work (λ x. without_both q.law.held q.law.healing b x (k.among x)) refl k.none_first
    work_gone false true e = worked n keeps r s g kind (with q.asked b) may_work _ (record { inside = refl; is_object = refl; no_second = λ x. without_no empty b x refl }) every_work (λ x. without_both empty q.law.healing b x (λ e. absurd (cc e))) refl k.none_first
    work_gone w false e = absurd (cc e)

    work_told : (told : Told) → fits (Lock Work here) told ≡ true → Standing n keeps (asked_for n keeps r at b (Lock Work here) told) (source_after n keeps pick (asked_for n keeps r at b (Lock Work here) told) s) g kind
    work_told as_told.Granted f = work_granted (busy n r.law) (is_area (Some here) here) (same_area_self here)
    work_told (as_told.Held owner) f = work_refused (busy n r.law) (is_area (Some here) here) q.asked (same_area_self here)
    work_told as_told.Failed f = work_refused (busy n r.law) (is_area (Some here) here) (with q.asked b) (same_area_self here)
    work_told as_told.NotConnected f = work_gone (busy n r.law) (is_area (Some here) here) (same_area_self here)
    work_told _ f = absurd (cc f)

  work_begins : over n (locks_at r Opening) r.asked ≡ true → Keeps n keeps pick r s g kind Begins
  work_begins o at = Looking (record {
    base = record { inside = refl; is_object = refl; no_second = k.base.no_second };
    whole = refl;
    step = refl;
    opening = refl;
    is_kind = refl;
    every = k.every;
    area = refl;
    among = k.among;
    first = λ x h. absurd (not_both (q.first_reached x) h (k.none_first x));
    more = some_held (over n q.law.held empty) refl;
  })
    where
      one : (x : ℕ) × (x < n) × (q.law.held x ≡ true)
      one = some_of_most n q.law.held (enough_work n keeps r s g kind k o)

      some_held : (f : Bool) → over n q.law.held empty ≡ f → over n q.law.held empty ≡ false
      some_held true e = absurd (cc (over_asked n q.law.held empty e one.0 one.1 one.2))
      some_held false e = e

  -- the Work locks of the opening
  pub work_kept : KeepsAt n keeps pick r s g kind
  work_kept = lock_elim n keeps r s g kind (Keeps n keeps pick r s g kind) refl refl (λ b l t at told f. work_told b at t told f) work_begins
