-- What the tests of a heal's moves say, one by one.
use Rattle.afr_base.specs.Majority.{is_most}
use Rattle.afr_base.specs.declared.ids.Gfid.{Gfid}
use Rattle.afr_base.specs.declared.ids.Kind.{Kind}
use Rattle.afr_base.specs.declared.ids.Kind.TheVariants.{Attrs, Bytes, Names}
use Rattle.afr_base.specs.declared.marks.Marks.{Marks}
use Rattle.afr_model_moves.specs.Note.{next_part}
use Rattle.afr_model_moves.specs.Register.{Applies, Exact, Finish, HealLocks, HealPart, HealPres, HealUnlocks, Looks, Mends, Open, Opening, Piece, Posts, Pres, Reads, Settles, Step, Unlocks, Untouched, WorkLocks, asked_in, good, holder, is_finish, len_of, over, piece_area, rank, same_step, unaccused, whole_area}
use Rattle.afr_model_moves.specs.Steps.{after_unlocks, goes_on, goes_on_at, is_lowest, is_next, locks_at, looks_over, may_heal, may_mend, mends_over, onward, passed, pres_over, set_of, settles_over, takes, turn}
use Rattle.afr_model_moves.specs.Honest.{asked}
use Rattle.afr_model_moves.specs.Lines.{look_at, pre_on, settle_on}
use Rattle.afr_model_moves.specs.Sets.{empty}
use Rattle.afr_lines.specs.declared.request.Area.{Area}
use Rattle.afr_lines.specs.declared.request.Request.{Request}
use Rattle.afr_lines.specs.declared.request.Request.TheVariants.{List, Lock, Mend, ReadAttrs, ReadBytes, Unlock}
use Rattle.afr_lines.specs.Overlap.{same_area}
use Rattle.afr_base.specs.Kinds.{same_kind}
use Rattle.afr_object.specs.declared.change.Repair.{Repair}
use Rattle.afr_object.specs.declared.change.Repair.TheVariants.{Copy, CutTo, PutAttrs, PutNames}
use Rattle.afr_lines.specs.declared.lock.Domain.TheVariants.{Heal, Work}
use Rattle.std.proofs.Common.{Bool, ap, arith, false, not, refl, sym, true, true≢false, ℕ, ◌&&◌, ◌<◌, ◌||◌, ◌∙◌, ◌≡◌, ◌≤◌}
use Rattle.std.specs.Prelude.{if◌then◌else◌, nat_lt, ◌==◌}
use Rattle.afr_model_moves.specs.Rules.{busy, heal_area, is_area}
use Rattle.afr_model_moves.proofs.Tests.{same_self, all_yes, work_locks}
use Rattle.std.proofs.lemmas.Bool.{not-true, le-ltb, eqb-true, leb-true}
use Rattle.afr_base.specs.Bricks.{and_left, and_right}

pub or_true : (x y : Bool) → (x || y) ≡ true → x ≡ false → y ≡ true
or_true x y e f = grind arith

-- the rank tells the step
pub settles_is : (step : Step) → rank step ≡ 11 → step ≡ Settles
settles_is Settles k = refl
settles_is Untouched k = absurd (omega (arith, k))
settles_is Open k = absurd (omega (arith, k))
settles_is Pres k = absurd (omega (arith, k))
settles_is Applies k = absurd (omega (arith, k))
settles_is Posts k = absurd (omega (arith, k))
settles_is HealLocks k = absurd (omega (arith, k))
settles_is WorkLocks k = absurd (omega (arith, k))
settles_is Looks k = absurd (omega (arith, k))
settles_is Reads k = absurd (omega (arith, k))
settles_is HealPres k = absurd (omega (arith, k))
settles_is Mends k = absurd (omega (arith, k))
settles_is Unlocks k = absurd (omega (arith, k))
settles_is HealUnlocks k = absurd (omega (arith, k))

pub looks_is : (step : Step) → rank step ≡ 7 → step ≡ Looks
looks_is Looks k = refl
looks_is Untouched k = absurd (omega (arith, k))
looks_is Open k = absurd (omega (arith, k))
looks_is Pres k = absurd (omega (arith, k))
looks_is Applies k = absurd (omega (arith, k))
looks_is Posts k = absurd (omega (arith, k))
looks_is HealLocks k = absurd (omega (arith, k))
looks_is WorkLocks k = absurd (omega (arith, k))
looks_is Reads k = absurd (omega (arith, k))
looks_is HealPres k = absurd (omega (arith, k))
looks_is Mends k = absurd (omega (arith, k))
looks_is Settles k = absurd (omega (arith, k))
looks_is Unlocks k = absurd (omega (arith, k))
looks_is HealUnlocks k = absurd (omega (arith, k))

-- the bricks asked in the present step
pub asked_now : (r : Exact) (step : Step) → r.step ≡ step → asked_in r step ≡ r.asked
asked_now r step e = (let hit : same_step r.step step ≡ true = ap (λ (s : Step). same_step s step) e ∙ same_self (rank step) in rw hit refl)

pub over_at : (n : ℕ) (set asked : ℕ → Bool) → over n set asked ≡ true → (x : ℕ) → x < n → set x ≡ true → asked x ≡ true
over_at n set asked e x low h = meant (set x) (asked x) h (all_yes n (λ y. not (set y) || asked y) e x low)
  where
    meant : (a b : Bool) → a ≡ true → (not a || b) ≡ true → b ≡ true
    meant a b e f = grind arith

pub turn_fresh : (n : ℕ) (keeps : ℕ → Kind → Bool) (r : Exact) (s : ℕ) (step : Step) (b : ℕ) → turn n keeps r s step b ≡ true → asked_in r step b ≡ false
turn_fresh n keeps r s step b e = not-true (asked_in r step b) (and_right _ _ (and_left _ _ e))

pub passed_over : (n : ℕ) (keeps : ℕ → Kind → Bool) (r : Exact) (s : ℕ) (step : Step) → passed n keeps r s step ≡ true → rank r.step ≤ rank step → over n (set_of n keeps r s step) (asked_in r step) ≡ true
passed_over n keeps r s step e low = or_true (nat_lt (rank step) (rank r.step)) _ e (le-ltb (rank step) (rank r.step) low)

-- a step in which some brick was asked is the present one
pub asked_is : (r : Exact) (step : Step) (x : ℕ) → asked_in r step x ≡ true → (rank r.step ≡ rank step) × (r.asked x ≡ true)
asked_is r step x e = go (same_step r.step step) refl e
  where
    go : (hit : Bool) → same_step r.step step ≡ hit → (if hit then r.asked else empty) x ≡ true → (rank r.step ≡ rank step) × (r.asked x ≡ true)
    go true k m = (eqb-true (rank r.step) (rank step) k, m)
    go false k m = absurd (true≢false (sym m))

-- the source is good by the first looks, and at first they are enough
pub goes_good : (n : ℕ) (keeps : ℕ → Kind → Bool) (r : Exact) (s : ℕ) → goes_on n keeps r s ≡ true → good n keeps r.law.kind r.first_views s ≡ true
goes_good n keeps r s e = and_left _ _ e

pub goes_enough : (n : ℕ) (keeps : ℕ → Kind → Bool) (r : Exact) (s : ℕ) → goes_on n keeps r s ≡ true → r.part ≡ Opening → is_most n (holder r.first_views) ≡ true
goes_enough n keeps r s e first = go r.part first (and_right _ _ e)
  where
    go : (p : HealPart) → p ≡ Opening → goes_on_at n keeps r s p ≡ true → is_most n (holder r.first_views) ≡ true
    go Opening k m = and_right _ _ (and_left _ _ m)
    go Piece k m = absurd (cc k)
    go Finish k m = absurd (cc k)

-- and later no present view accuses it
pub goes_unaccused : (n : ℕ) (keeps : ℕ → Kind → Bool) (r : Exact) (s : ℕ) → goes_on n keeps r s ≡ true → (r.part ≡ Opening → ⊥) → unaccused n r.law.kind r.views s ≡ true
goes_unaccused n keeps r s e later = go r.part later (and_right _ _ e)
  where
    go : (p : HealPart) → (p ≡ Opening → ⊥) → goes_on_at n keeps r s p ≡ true → unaccused n r.law.kind r.views s ≡ true
    go Opening k m = absurd (k refl)
    go Piece k m = m
    go Finish k m = and_left _ _ m

-- what each test of steps that are over has in it
module _ (n : ℕ) (keeps : ℕ → Kind → Bool) (r : Exact) (s : ℕ) where
  pub onward_goes : (g : ℕ) (kind : Kind) → onward n keeps r s g kind ≡ true → goes_on n keeps r s ≡ true
  onward_goes g kind e = and_left _ _ (and_left _ _ (and_left _ _ e))

  pub onward_looks : (g : ℕ) (kind : Kind) → onward n keeps r s g kind ≡ true → looks_over n keeps r s ≡ true
  onward_looks g kind e = and_right _ _ (and_left _ _ (and_left _ _ e))

  pub onward_object : (g : ℕ) (kind : Kind) → onward n keeps r s g kind ≡ true → (g == r.law.object) ≡ true
  onward_object g kind e = and_right _ _ (and_left _ _ e)

  pub onward_kind : (g : ℕ) (kind : Kind) → onward n keeps r s g kind ≡ true → same_kind kind r.law.kind ≡ true
  onward_kind g kind e = and_right _ _ e

  pub mend_goes : (repair : Repair) → may_mend n keeps r s repair ≡ true → goes_on n keeps r s ≡ true
  mend_goes (CutTo g len) e = onward_goes g.0 Bytes (and_left _ _ (and_left _ _ e))
  mend_goes (Copy g at some read) e = onward_goes g.0 Bytes (and_left _ _ (and_left _ _ (and_left _ _ (and_left _ _ e))))
  mend_goes (PutAttrs g read) e = onward_goes g.0 Attrs (and_left _ _ e)
  mend_goes (PutNames g reads) e = onward_goes g.0 Names (and_left _ _ (and_left _ _ e))

  pub looks_far : looks_over n keeps r s ≡ true → 7 ≤ rank r.step
  looks_far e = leb-true 7 (rank r.step) (and_left _ _ e)

  pub looks_passed : looks_over n keeps r s ≡ true → passed n keeps r s Looks ≡ true
  looks_passed e = and_right _ _ e

  pub settles_mends : settles_over n keeps r s ≡ true → mends_over n keeps r s ≡ true
  settles_mends e = and_left _ _ e

  pub mends_pres : mends_over n keeps r s ≡ true → pres_over n keeps r s ≡ true
  mends_pres e = and_left _ _ e

  pub pres_looks : pres_over n keeps r s ≡ true → looks_over n keeps r s ≡ true
  pres_looks e = and_left _ _ (and_left _ _ e)

  pub pres_passed : pres_over n keeps r s ≡ true → passed n keeps r s HealPres ≡ true
  pres_passed e = and_right _ _ e

  pub mends_passed : mends_over n keeps r s ≡ true → passed n keeps r s Mends ≡ true
  mends_passed e = and_right _ _ e

module _ (n : ℕ) (keeps : ℕ → Kind → Bool) (r : Exact) (s b : ℕ) where
  abbrev May : Request → Type 0
  May request = may_heal n keeps r s b request ≡ true

  pub heal_lock_step : (area : Area) → May (Lock Heal area) → rank r.step ≡ 5
  heal_lock_step area e = eqb-true (rank r.step) 5 (and_left _ _ (and_left _ _ e))

  pub heal_lock_area : (area : Area) → May (Lock Heal area) → same_area (heal_area r.law.object) area ≡ true
  heal_lock_area area e = and_right _ _ e

  pub look_step : (g : ℕ) → May (look_at g) → rank r.step ≡ 7
  look_step g e = eqb-true (rank r.step) 7 (and_left _ _ (and_left _ _ e))

  pub look_turn : (g : ℕ) → May (look_at g) → turn n keeps r s Looks b ≡ true
  look_turn g e = and_right _ _ (and_left _ _ e)

  pub look_object : (g : ℕ) → May (look_at g) → (g == r.law.object) ≡ true
  look_object g e = and_right _ _ e

  pub bytes_turn : (g : Gfid) (at len : ℕ) → May (ReadBytes g at len) → turn n keeps r s Reads b ≡ true
  bytes_turn g at len e = and_right _ _ (and_left _ _ (and_left _ _ e))

  pub bytes_onward : (g : Gfid) (at len : ℕ) → May (ReadBytes g at len) → onward n keeps r s g.0 Bytes ≡ true
  bytes_onward g at len e = and_left _ _ (and_left _ _ (and_left _ _ e))

  pub attrs_turn : (g : Gfid) → May (ReadAttrs g) → turn n keeps r s Reads b ≡ true
  attrs_turn g e = and_right _ _ e

  pub attrs_onward : (g : Gfid) → May (ReadAttrs g) → onward n keeps r s g.0 Attrs ≡ true
  attrs_onward g e = and_left _ _ e

  pub list_turn : (g : Gfid) → May (List g) → turn n keeps r s Reads b ≡ true
  list_turn g e = and_right _ _ e

  pub list_onward : (g : Gfid) → May (List g) → onward n keeps r s g.0 Names ≡ true
  list_onward g e = and_left _ _ e

  pub pre_turn : (g : ℕ) (kind : Kind) → May (pre_on g kind) → turn n keeps r s HealPres b ≡ true
  pre_turn g kind e = and_right _ _ e

  pub pre_onward : (g : ℕ) (kind : Kind) → May (pre_on g kind) → onward n keeps r s g kind ≡ true
  pre_onward g kind e = and_left _ _ (and_left _ _ e)

  pub mend_turn : (repair : Repair) → May (Mend repair) → turn n keeps r s Mends b ≡ true
  mend_turn repair e = and_right _ _ e

  pub mend_pres : (repair : Repair) → May (Mend repair) → pres_over n keeps r s ≡ true
  mend_pres repair e = and_right _ _ (and_left _ _ e)

  pub mend_test : (repair : Repair) → May (Mend repair) → may_mend n keeps r s repair ≡ true
  mend_test repair e = and_left _ _ (and_left _ _ e)

  pub settle_turn : (g : ℕ) (kind : Kind) (less : Marks) → May (settle_on g kind less) → turn n keeps r s Settles b ≡ true
  settle_turn g kind less e = and_right _ _ (and_left _ _ e)

  pub settle_mends : (g : ℕ) (kind : Kind) (less : Marks) → May (settle_on g kind less) → mends_over n keeps r s ≡ true
  settle_mends g kind less e = and_right _ _ (and_left _ _ (and_left _ _ e))

  pub settle_onward : (g : ℕ) (kind : Kind) (less : Marks) → May (settle_on g kind less) → onward n keeps r s g kind ≡ true
  settle_onward g kind less e = and_left _ _ (and_left _ _ (and_left _ _ e))

  pub settle_takes : (g : ℕ) (kind : Kind) (less : Marks) → May (settle_on g kind less) → takes n keeps r s b kind less (r.first_views b) ≡ true
  settle_takes g kind less e = and_right _ _ e

  pub unlock_over : (area : Area) → May (Unlock Work area) → settles_over n keeps r s ≡ true
  unlock_over area e = and_right _ _ (and_left _ _ (and_left _ _ e))

  pub unlock_turn : (area : Area) → May (Unlock Work area) → turn n keeps r s Unlocks b ≡ true
  unlock_turn area e = and_right _ _ (and_left _ _ e)

  pub unlock_goes : (area : Area) → May (Unlock Work area) → goes_on n keeps r s ≡ true
  unlock_goes area e = and_left _ _ (and_left _ _ (and_left _ _ e))

  pub heal_unlock_over : (area : Area) → May (Unlock Heal area) → settles_over n keeps r s ≡ true
  heal_unlock_over area e = and_right _ _ (and_left _ _ (and_left _ _ (and_left _ _ (and_left _ _ e))))

  pub heal_unlock_goes : (area : Area) → May (Unlock Heal area) → goes_on n keeps r s ≡ true
  heal_unlock_goes area e = and_left _ _ (and_left _ _ (and_left _ _ (and_left _ _ (and_left _ _ e))))

  pub heal_unlock_turn : (area : Area) → May (Unlock Heal area) → turn n keeps r s HealUnlocks b ≡ true
  heal_unlock_turn area e = and_right _ _ (and_left _ _ e)

  -- where Work locks may be asked: in their step, after the Heal locks, or after the unlocks of a part of a data heal
  pub data WorkPlace (area : Area) : Type 0 where
    Waits : r.step ≡ WorkLocks → next_part r area ≡ r.part → is_area r.law.area area ≡ true → locks_at r r.part b ≡ true → asked_in r WorkLocks b ≡ false → WorkPlace area
    Starts : rank r.step ≡ 5 → next_part r area ≡ r.part → r.law.healing b ≡ true → WorkPlace area
    Resumes : rank r.step ≡ 12 → next_part r area ≡ (if same_area (whole_area r.law.object Bytes) area then Finish else Piece) → busy n r.law ≡ false → same_kind r.law.kind Bytes ≡ true → is_finish r.part ≡ false → r.first_reached b ≡ true
        → (if nat_lt r.upto (len_of (r.first_views s)) then same_area (piece_area r.law.object r.upto) area else same_area (whole_area r.law.object Bytes) area) ≡ true → WorkPlace area

  pub work_place : (area : Area) → May (Lock Work area) → WorkPlace area
  work_place area e = go (same_step r.step WorkLocks) refl (same_step r.step HealLocks) refl (same_step r.step Unlocks) refl e
    where
      go : (wait : Bool) → same_step r.step WorkLocks ≡ wait → (heal : Bool) → same_step r.step HealLocks ≡ heal → (freeing : Bool) → same_step r.step Unlocks ≡ freeing
          → (if wait then is_area r.law.area area && is_lowest (locks_at r r.part) r.asked b
          else if heal then is_next n r s area && is_lowest r.law.healing empty b
          else after_unlocks n r area s && not (is_finish r.part) && is_lowest r.first_reached empty b) ≡ true → WorkPlace area
      go true p heal q true v m = (let six : rank r.step ≡ 6 = eqb-true (rank r.step) 6 p in let twelve : rank r.step ≡ 12 = eqb-true (rank r.step) 12 v in absurd (omega (arith, six, twelve)))
      go true p heal q false v m = Waits (work_locks r.step p) (rw v refl) (and_left _ _ m) (and_left _ _ (and_left _ _ (and_right _ _ m))) (rw p (not-true _ (and_right _ _ (and_left _ _ (and_right _ _ m)))))
      go false p true q true v m = (let five : rank r.step ≡ 5 = eqb-true (rank r.step) 5 q in let twelve : rank r.step ≡ 12 = eqb-true (rank r.step) 12 v in absurd (omega (arith, five, twelve)))
      go false p true q false v m = Starts (eqb-true (rank r.step) 5 q) (rw v refl) (and_left _ _ (and_left _ _ (and_right _ _ m)))
      go false p false q false v m = absurd (true≢false (sym (and_left _ _ (and_left _ _ (and_left _ _ (and_left _ _ (and_left _ _ m))))) ∙ v))
      go false p false q true v m = Resumes (eqb-true (rank r.step) 12 v) (rw v refl) (not-true _ (and_right _ _ (and_left _ _ (and_left _ _ (and_left _ _ (and_left _ _ m)))))) (and_right _ _ (and_left _ _ (and_left _ _ (and_left _ _ m))))
          (not-true _ (and_right _ _ (and_left _ _ m))) (and_left _ _ (and_left _ _ (and_right _ _ m))) (and_right _ _ (and_left _ _ (and_left _ _ m)))
