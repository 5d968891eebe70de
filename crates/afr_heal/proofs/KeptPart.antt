-- A heal keeps standing at the first Work lock of its next part.
use Rattle.std.proofs.Common.{ℕ, ◌≡◌, ◌<◌, ◌≤◌, ◌&&◌, if◌then◌else◌, Bool, false, not, refl, subst, sym, true}
use Rattle.afr_base.specs.Kinds.{same_kind}
use Rattle.afr_base.specs.declared.ids.Gfid.{Gfid}
use Rattle.afr_base.specs.declared.ids.Kind.{Kind}
use Rattle.afr_base.specs.declared.ids.Kind.TheVariants.{Attrs, Bytes, Names}
use Rattle.afr_heal.proofs.KeptBroken.{dropped_base}
use Rattle.afr_heal.proofs.KeptSteps.{may_still, told_all}
use Rattle.afr_heal.proofs.Parts.{both, off}
use Rattle.afr_heal.proofs.StagesAllowed.{is_good, may_part}
use Rattle.afr_heal.proofs.StagesForms.{going_at, granting_first, locking_first, part_at}
use Rattle.afr_heal.proofs.StagesWalk.{at_unlocks, is_free}
use Rattle.afr_heal.specs.Answers.{asked_for, fits, source_after}
use Rattle.afr_heal.specs.Engine.{Ask, has_part, lock_next}
use Rattle.afr_heal.specs.Laws.{Keeps}
use Rattle.afr_heal.specs.Requests.{next_area}
use Rattle.afr_heal.specs.Standing.{AfterLooks, AtPart, Broken, Ending, Parting, Standing}
use Rattle.afr_lines.specs.Overlap.{same_area}
use Rattle.afr_lines.specs.declared.answer.Told.{Told}
use Rattle.afr_lines.specs.declared.request.Area.{Area}
use Rattle.afr_lines.specs.declared.request.Request.TheVariants.{Lock}
use Rattle.afr_model_moves.specs.Note.{next_part}
use Rattle.afr_model_moves.specs.Register.{Exact, Finish, HealPart, Mends, Piece, Settles, Unlocks, WorkLocks, asked_in, is_finish, is_opening, rank, same_step, whole_area}
use Rattle.afr_model_moves.specs.Rules.{Register, begun, busy}
use Rattle.afr_model_moves.specs.Sets.{empty, with}
use Rattle.afr_model_moves.specs.Steps.{is_lowest, may_heal, mends_over, passed, pres_over, settles_over}
use Rattle.afr_lines.specs.declared.lock.Domain.TheVariants.{Work}
use Rattle.afr_lines.specs.declared.answer.Told.TheVariants as as_told
use Rattle.afr_model_moves.specs.Rules as weak

module _ (n : ℕ) (keeps : ℕ → Kind → Bool) (few : n ≤ 5) (q : Exact) (s : ℕ) (g : Gfid) (kind : Kind) (area : Area) (k : AfterLooks n keeps (going_at q g kind area) s g kind) where
  abbrev r : Exact
  r = going_at q g kind area

  module _ (pick : (ℕ → Bool) → ℕ) where
    module _ (b at : ℕ) (o : settles_over n keeps r s ≡ true) (u : passed n keeps r s Unlocks ≡ true) (p : has_part kind q.part ≡ true) (l : b < n) (t : is_lowest r.first_reached (λ x. false) b ≡ true) where
      abbrev there : Area
      there = next_area r s g

      abbrev new_part : HealPart
      new_part = if same_area (whole_area g.0 Bytes) there then Finish else Piece

      later : is_opening new_part ≡ false
      later = by (same_area (whole_area g.0 Bytes) there)
        where
          by : (f : Bool) → is_opening (if f then Finish else Piece) ≡ false
          by true = refl
          by false = refl

      stepped : rank q.step ≡ 12
      stepped = at_unlocks n keeps r s g kind k u p

      part_is : next_part r there ≡ new_part
      part_is = let e : same_step q.step Unlocks ≡ true = rw stepped refl in rw e refl

      asked_is : asked_in r WorkLocks ≡ empty
      asked_is = let e : same_step q.step WorkLocks ≡ false = rw stepped refl in rw e refl

      free : busy n r.law ≡ false
      free = is_free n keeps r s g kind k u

      bytes : kind ≡ Bytes
      bytes = is_bytes kind (both (same_kind kind Bytes) (not (is_finish q.part)) p).0
        where
          is_bytes : (kind : Kind) → same_kind kind Bytes ≡ true → kind ≡ Bytes
          is_bytes Bytes h = refl
          is_bytes Attrs h = absurd (cc h)
          is_bytes Names h = absurd (cc h)

      abbrev still : ℕ → Bool
      still x = r.possible x && may_heal n keeps r x b (Lock Work there)

      mend_passed : passed n keeps r s Mends ≡ true
      mend_passed = (both (pres_over n keeps r s) (passed n keeps r s Mends) (both (mends_over n keeps r s) (passed n keeps r s Settles) o).0).1

      parts : (asked held : ℕ → Bool) → ((x : ℕ) → x < n → asked x ≡ true → held x ≡ true) → AtPart n keeps (part_at n keeps r new_part asked still false (record (begun r.law there) { held = held })) s g kind
      parts asked held granted = record {
        base = record { inside = refl; is_object = refl; no_second = λ x. refl };
        whole = off _ _ (off _ _ later);
        step = refl;
        part = later;
        bytes = bytes;
        is_kind = refl;
        picked = record { below = k.below; possible = may_still n keeps few q s g kind area k b (Lock Work there) (may_part n keeps r s g kind few k u p b l t); is_good = is_good n keeps r s g kind few k; many = k.many };
        area = there;
        area_is = refl;
        granted = granted;
        healing = λ x l m. k.healing x l m (k.parts p);
        told = λ x l m. off (r.possible x) _ (told_all n keeps few q s g kind area k mend_passed bytes x l m);
      }

      fallen : (gone : Bool) → Broken (part_at n keeps r new_part (with (asked_in r WorkLocks) b) still true (weak.dropping gone b (begun r.law there))) g
      fallen gone = record { base = dropped_base g (begun r.law there) gone b (record { inside = refl; is_object = refl; no_second = λ x. refl }); broken = let e = later in rw e refl }

      lock_is : weak.locking n r.law there ≡ begun r.law there
      lock_is = locking_first n r.law there b free

      grant_is : weak.granting n r.law there b ≡ record (begun r.law there) { held = with empty b }
      grant_is = granting_first n r.law there b free

      part_told : (told : Told) → fits (Lock Work there) told ≡ true → Standing n keeps (asked_for n keeps r at b (Lock Work there) told) (source_after n keeps pick (asked_for n keeps r at b (Lock Work there) told) s) g kind
      part_told as_told.Granted f =
          subst (λ (part : HealPart). Standing n keeps (part_at n keeps r part (with (asked_in r WorkLocks) b) still false (weak.granting n r.law there b)) s g kind) (sym part_is)
          (subst (λ (law : Register). Standing n keeps (part_at n keeps r new_part (with (asked_in r WorkLocks) b) still false law) s g kind) (sym grant_is)
          (subst (λ (none : ℕ → Bool). Standing n keeps (part_at n keeps r new_part (with none b) still false (record (begun r.law there) { held = with empty b })) s g kind) (sym asked_is)
          (Parting (parts (with empty b) (with empty b) (λ x l h. h)))))
      part_told (as_told.Held owner) f =
          subst (λ (part : HealPart). Standing n keeps (part_at n keeps r part (asked_in r WorkLocks) still false (weak.locking n r.law there)) s g kind) (sym part_is)
          (subst (λ (law : Register). Standing n keeps (part_at n keeps r new_part (asked_in r WorkLocks) still false law) s g kind) (sym lock_is)
          (subst (λ (none : ℕ → Bool). Standing n keeps (part_at n keeps r new_part none still false (begun r.law there)) s g kind) (sym asked_is)
          (Parting (parts empty empty (λ x l h. h)))))
      part_told as_told.Failed f =
          subst (λ (part : HealPart). Standing n keeps (part_at n keeps r part (with (asked_in r WorkLocks) b) still true (weak.locking n r.law there)) s g kind) (sym part_is)
          (subst (λ (law : Register). Standing n keeps (part_at n keeps r new_part (with (asked_in r WorkLocks) b) still true law) s g kind) (sym lock_is)
          (Ending (fallen false)))
      part_told as_told.NotConnected f =
          subst (λ (part : HealPart). Standing n keeps (part_at n keeps r part (with (asked_in r WorkLocks) b) still true (weak.dropping true b (weak.locking n r.law there))) s g kind) (sym part_is)
          (subst (λ (law : Register). Standing n keeps (part_at n keeps r new_part (with (asked_in r WorkLocks) b) still true (weak.dropping true b law)) s g kind) (sym lock_is)
          (Ending (fallen true)))
      part_told _ f = absurd (cc f)

    -- the first Work lock of the next part
    pub part_kept : settles_over n keeps r s ≡ true → passed n keeps r s Unlocks ≡ true → has_part kind q.part ≡ true → (b : ℕ) → b < n → is_lowest r.first_reached (λ x. false) b ≡ true → Keeps n keeps pick r s g kind (Ask b (lock_next r s g b))
    part_kept o u p b l t at told f = part_told b at o u p l t told f
