-- A heal keeps standing while it gives its locks back.
use Rattle.std.proofs.Common.{ℕ, ◌≡◌, ◌+◌, ◌<◌, ◌≤◌, ◌&&◌, ◌==◌, if◌then◌else◌, Bool, Some, arith, false, nat_le, nat_lt, refl, subst, sym, true}
use Rattle.std.proofs.lemmas.Bool.Decides.{nat_tests}
use Rattle.afr_base.specs.declared.ids.Gfid.{Gfid}
use Rattle.afr_base.specs.declared.ids.Kind.{Kind}
use Rattle.afr_heal.proofs.Finding.{turn_low}
use Rattle.afr_heal.proofs.KeptBroken.{dropped_base, unlocked_base}
use Rattle.afr_heal.proofs.KeptSteps.{may_still, noted_all, told_all}
use Rattle.afr_heal.proofs.Parts.{both, not_both, off, or_true}
use Rattle.afr_heal.proofs.StagesAllowed.{may_heals, may_unlocks, reads_passed}
use Rattle.afr_heal.proofs.StagesForms.{going_at, lost, released_own, unlocked_own}
use Rattle.afr_heal.proofs.StagesWalk.{not_busy}
use Rattle.afr_heal.specs.Engine.{Ask, has_part}
use Rattle.afr_heal.specs.Laws.{Keeps}
use Rattle.afr_heal.specs.Requests.{request_in}
use Rattle.afr_heal.specs.Standing.{AfterLooks, Ending, Going, Standing}
use Rattle.afr_lines.specs.declared.request.Area.{Area}
use Rattle.afr_lines.specs.declared.request.Request.TheVariants.{Unlock}
use Rattle.afr_model_moves.proofs.AreaLemmas.{heal_freed_own}
use Rattle.afr_model_moves.specs.Register.{Exact, HealUnlocks, Mends, Settles, Unlocks, asked_in, is_piece, rank, span}
use Rattle.afr_model_moves.specs.Rules.{Register, heal_area, is_area}
use Rattle.afr_model_moves.specs.Sets.{with, without}
use Rattle.afr_model_moves.specs.Steps.{may_heal, mends_over, passed, pres_over, settles_over, turn}
use Rattle.afr_lines.specs.declared.lock.Domain.TheVariants.{Heal, Work}
use Rattle.afr_lines.specs.declared.answer.Told.TheVariants as as_told
use Rattle.afr_model_moves.specs.Rules as weak

module _ (n : ℕ) (keeps : ℕ → Kind → Bool) (few : n ≤ 5) (q : Exact) (s : ℕ) (g : Gfid) (kind : Kind) (area : Area) (k : AfterLooks n keeps (going_at q g kind area) s g kind) where
  abbrev r : Exact
  r = going_at q g kind area

  -- the register after an unlock of the area
  abbrev unlocked_at : (ℕ → Bool) → (ℕ → Bool) → (ℕ → Bool) → (ℕ → Bool) → ℕ → Exact
  unlocked_at asked possible closed held upto = record r { step = Unlocks; asked = asked; possible = possible; upto = upto; broken = false; law = record r.law { closed = closed; held = held } }

  unlocked_after : (asked possible closed held : ℕ → Bool) (upto : ℕ) → settles_over n keeps r s ≡ true → nat_le (rank r.step) 12 ≡ true → possible s ≡ true → ((x : ℕ) → r.possible x ≡ false → possible x ≡ false)
      → ((x : ℕ) → x < n → asked x ≡ true → held x ≡ false) → AfterLooks n keeps (unlocked_at asked possible closed held upto) s g kind
  unlocked_after asked possible closed held upto o low may less freed = record {
    base = record { inside = refl; is_object = refl; no_second = k.base.no_second };
    whole = refl;
    is_kind = refl;
    of_kind = k.of_kind;
    below = k.below;
    possible = may;
    many = k.many;
    onwards = k.onwards;
    looked = refl;
    area = area;
    area_is = refl;
    noted = λ x l m h. noted_all n keeps few q s g kind area k (reads_passed n keeps r s g kind few k pre_over) x l m;
    told = λ bytes x l m h. less x (told_all n keeps few q s g kind area k mend_passed bytes x l m);
    freed = λ x l h. freed x l h;
    holding = λ x l m h. absurd (cc h);
    lost = λ x l h. absurd (cc h);
    healing = λ x l m h. k.healing x l m (grind (arith, nat_tests, low));
    parts = λ h. refl;
  }
    where
      mend_over : mends_over n keeps r s ≡ true
      mend_over = (both (mends_over n keeps r s) (passed n keeps r s Settles) o).0

      pre_over : pres_over n keeps r s ≡ true
      pre_over = (both (pres_over n keeps r s) (passed n keeps r s Mends) mend_over).0

      mend_passed : passed n keeps r s Mends ≡ true
      mend_passed = (both (pres_over n keeps r s) (passed n keeps r s Mends) mend_over).1

  -- the register after a Heal unlock
  given_after : (asked possible healing : ℕ → Bool) → settles_over n keeps r s ≡ true → passed n keeps r s Unlocks ≡ true → has_part kind q.part ≡ false → possible s ≡ true → ((x : ℕ) → r.possible x ≡ false → possible x ≡ false)
      → ((x : ℕ) → x < n → asked x ≡ true → healing x ≡ false) → AfterLooks n keeps (record r { step = HealUnlocks; asked = asked; possible = possible; broken = false; law = record r.law { healing = healing } }) s g kind
  given_after asked possible healing o u last may less lost = record {
    base = record { inside = refl; is_object = refl; no_second = k.base.no_second };
    whole = refl;
    is_kind = refl;
    of_kind = k.of_kind;
    below = k.below;
    possible = may;
    many = k.many;
    onwards = k.onwards;
    looked = refl;
    area = area;
    area_is = refl;
    noted = λ x l m h. noted_all n keeps few q s g kind area k (reads_passed n keeps r s g kind few k pre_over) x l m;
    told = λ bytes x l m h. less x (told_all n keeps few q s g kind area k mend_passed bytes x l m);
    freed = λ x l h. not_busy n keeps r s g kind k u x l;
    holding = λ x l m h. absurd (cc h);
    lost = λ x l h. lost x l h;
    healing = λ x l m h. absurd (cc h);
    parts = λ h. absurd (not_both (has_part kind q.part) h last);
  }
    where
      mend_over : mends_over n keeps r s ≡ true
      mend_over = (both (mends_over n keeps r s) (passed n keeps r s Settles) o).0

      pre_over : pres_over n keeps r s ≡ true
      pre_over = (both (pres_over n keeps r s) (passed n keeps r s Mends) mend_over).0

      mend_passed : passed n keeps r s Mends ≡ true
      mend_passed = (both (pres_over n keeps r s) (passed n keeps r s Mends) mend_over).1

  module _ (pick : (ℕ → Bool) → ℕ) where
    -- the unlocks of a part
    pub unlocks_kept : settles_over n keeps r s ≡ true → (b : ℕ) → b < n → turn n keeps r s Unlocks b ≡ true → Keeps n keeps pick r s g kind (Ask b (request_in n keeps r s g kind Unlocks b))
    unlocks_kept o b l t at as_told.Done f =
        subst (λ (law : Register). Standing n keeps (record (unlocked_at (with (asked_in r Unlocks) b) (λ x. r.possible x && may_heal n keeps r x b (Unlock Work area)) r.law.closed r.law.held (after_piece)) { law = law }) s g kind) (sym (released_own n r.law area b refl))
        (Going (unlocked_after (with (asked_in r Unlocks) b) (λ x. r.possible x && may_heal n keeps r x b (Unlock Work area)) (with r.law.closed b) (without r.law.held b) after_piece o (turn_low n keeps r s Unlocks b t)
        (may_still n keeps few q s g kind area k b (Unlock Work area) (may_unlocks n keeps r s g kind few k o b l t)) (λ x h. off (r.possible x) _ h) freed_now))
      where
        after_piece : ℕ
        after_piece = if is_piece q.part && nat_lt (rank q.step) 12 then q.upto + span else q.upto

        freed_now : (x : ℕ) → x < n → with (asked_in r Unlocks) b x ≡ true → without r.law.held b x ≡ false
        freed_now x lx = here (x == b)
          where
            here : (e : Bool) → (if e then true else asked_in r Unlocks x) ≡ true → (if e then false else r.law.held x) ≡ false
            here true h = refl
            here false h = k.freed x lx (rw h (or_true (nat_lt 12 (rank q.step))))
    unlocks_kept o b l t at as_told.Failed f =
        subst (λ (law : Register). Standing n keeps (record (unlocked_at (asked_in r Unlocks) (λ x. r.possible x && may_heal n keeps r x b (Unlock Work area)) r.law.closed r.law.held (after_piece)) { law = law }) s g kind) (sym (unlocked_own n r.law area b refl))
        (Going (unlocked_after (asked_in r Unlocks) (λ x. r.possible x && may_heal n keeps r x b (Unlock Work area)) (with r.law.closed b) r.law.held after_piece o (turn_low n keeps r s Unlocks b t)
        (may_still n keeps few q s g kind area k b (Unlock Work area) (may_unlocks n keeps r s g kind few k o b l t)) (λ x h. off (r.possible x) _ h) (λ x lx h. k.freed x lx (rw h (or_true (nat_lt 12 (rank q.step)))))))
      where
        after_piece : ℕ
        after_piece = if is_piece q.part && nat_lt (rank q.step) 12 then q.upto + span else q.upto
    unlocks_kept o b l t at as_told.NotConnected f = Ending (record { base = dropped_base g (weak.unlocked r.law area b) true b (unlocked_base g r.law (is_area (Some area) area) b k.base); broken = refl })
    unlocks_kept o b l t at _ f = absurd (cc f)

    -- the Heal locks are given back
    pub heals_kept : settles_over n keeps r s ≡ true → passed n keeps r s Unlocks ≡ true → has_part kind q.part ≡ false → (b : ℕ) → b < n → turn n keeps r s HealUnlocks b ≡ true → Keeps n keeps pick r s g kind (Ask b (request_in n keeps r s g kind HealUnlocks b))
    heals_kept o u last b l t at as_told.Done f =
        subst (λ (healing : ℕ → Bool). Standing n keeps (record r { step = HealUnlocks; asked = with (asked_in r HealUnlocks) b; possible = λ x. r.possible x && may_heal n keeps r x b (Unlock Heal (heal_area g.0)); broken = false; law = record r.law { healing = healing } }) s g kind) (sym (heal_freed_own r.law b))
        (Going (given_after (with (asked_in r HealUnlocks) b) (λ x. r.possible x && may_heal n keeps r x b (Unlock Heal (heal_area g.0))) (without r.law.healing b) o u last
        (may_still n keeps few q s g kind area k b (Unlock Heal (heal_area g.0)) (may_heals n keeps r s g kind few k o u last b l t)) (λ x h. off (r.possible x) _ h) lost_now))
      where
        lost_now : (x : ℕ) → x < n → with (asked_in r HealUnlocks) b x ≡ true → without r.law.healing b x ≡ false
        lost_now x lx = here (x == b)
          where
            here : (e : Bool) → (if e then true else asked_in r HealUnlocks x) ≡ true → (if e then false else r.law.healing x) ≡ false
            here true h = refl
            here false h = k.lost x lx (rw h (or_true (nat_lt 13 (rank q.step))))
    heals_kept o u last b l t at as_told.Failed f =
        Going (given_after (asked_in r HealUnlocks) (λ x. r.possible x && may_heal n keeps r x b (Unlock Heal (heal_area g.0))) r.law.healing o u last
        (may_still n keeps few q s g kind area k b (Unlock Heal (heal_area g.0)) (may_heals n keeps r s g kind few k o u last b l t)) (λ x h. off (r.possible x) _ h) (λ x lx h. k.lost x lx (rw h (or_true (nat_lt 13 (rank q.step))))))
    heals_kept o u last b l t at as_told.NotConnected f = Ending (record { base = dropped_base g r.law true b k.base; broken = refl })
    heals_kept o u last b l t at _ f = absurd (cc f)
