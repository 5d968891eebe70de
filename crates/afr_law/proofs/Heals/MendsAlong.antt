-- A Mend brings each copy the same, and so along all lines of a heal.
use Rattle.afr_base.specs.declared.ids.Kind.{Kind}
use Rattle.afr_base.specs.declared.ids.Kind.TheVariants.{Bytes}
use Rattle.afr_model_moves.specs.Note.{fails}
use Rattle.afr_model_moves.specs.Register.{Exact, Finish, Mends, asked_in, len_of, rank}
use Rattle.afr_model_moves.specs.Steps.{may_heal}
use Rattle.afr_law.proofs.Heals.Areas.{AreasIn}
use Rattle.afr_law.proofs.Heals.Mends.{MendedAfter, bool_or, mends_is}
use Rattle.afr_law.proofs.Heals.Raises.{raise_set}
use Rattle.afr_law.proofs.Heals.Conditions.{asked_is, mend_test, mend_turn}
use Rattle.afr_law.proofs.Discipline.Inner.{turn_in, turn_low}
use Rattle.afr_model_moves.specs.Rules.{fresh}
use Rattle.afr_model_moves.specs.Lines.{ask_by}
use Rattle.afr_model_moves.specs.Sets.{with}
use Rattle.afr_law.proofs.Discipline.Stages.{mend_far}
use Rattle.afr_law.proofs.Discipline.StagesAlong.{StageOf}
use Rattle.afr_model_moves.specs.Tally.{Tally, give}
use Rattle.afr_lines.specs.declared.answer.Told.{Told}
use Rattle.afr_lines.specs.declared.answer.Told.TheVariants.{Done, Failed, NotConnected}
use Rattle.afr_lines.specs.declared.request.Request.{Request}
use Rattle.afr_lines.specs.declared.request.Request.TheVariants.{Mend}
use Rattle.afr_object.specs.declared.change.Repair.{Repair}
use Rattle.std.proofs.Common.{Bool, ap, arith, false, inl, inr, refl, subst, sym, true, true≢false, ℕ, ◌&&◌, ◌<◌, ◌∙◌, ◌≡◌, ◌≤◌, ◌⊎◌}
use Rattle.std.specs.Prelude.{Some, if◌then◌else◌, ◌==◌}
use Rattle.afr_model_moves.specs.Past.{Log, mends}
use Rattle.afr_model_moves.specs.Rules as weak
use Rattle.afr_model_moves.specs.Cells.{Cell, Byte, Attr, Entry}
use Rattle.afr_law.proofs.Heals.Mended.{Mended, Pending, Brought, Fits, MendedIn, IsWide, fits_one, mend_fits, mends_finish}
use Rattle.std.proofs.lemmas.Bool.{eq-eqb}
use Rattle.afr_base.specs.Bricks.{and_left, and_right}
use Rattle.afr_model_moves.proofs.Tests.{with_cases}

-- each PutNames of the log has one place a brick
abbrev pub Wide : Log → Type 0
Wide log = (t a b : ℕ) (repair : Repair) (told : Told) (took : Bool) → log t ≡ Some (ask_by a b (Mend repair) told took) → IsWide repair

module _ (n : ℕ) (keeps : ℕ → Kind → Bool) (t b : ℕ) (r : Exact) (k : Tally) (number : ℕ) (number_is : number ≡ r.law.number) (some_number : 7 ≤ rank r.step → r.law.number ≡ 0 → ⊥) (s : StageOf r) (inside : r.law.heal ≡ true) (areas : AreasIn r r.law) (h : MendedIn n keeps r r.law k) where
  abbrev pub MendAfter : Request → Told → Tally → Type 0
  MendAfter request told tally_now = MendedAfter n keeps t 0 b r k number number_is some_number areas h request told tally_now

  module _ (repair : Repair) (source : ℕ) (e : may_heal n keeps r source b (Mend repair) ≡ true) (possible : r.possible source ≡ true) (wide : IsWide repair) where
    far : 7 ≤ rank r.step
    far = mend_far n keeps r source repair (mend_test n keeps r source b repair e)

    low : rank r.step ≤ 10
    low = turn_low n keeps r source Mends b (mend_turn n keeps r source b repair e)

    fits_at : (s : ℕ) → (r.possible s && may_heal n keeps r s b (Mend repair)) ≡ true → Fits r.law.object r.law.kind r.part r.upto r.first_views r.reads s repair
    fits_at s p = mend_fits n keeps r s repair (mend_test n keeps r s b repair (and_right (r.possible s) (may_heal n keeps r s b (Mend repair)) p)) wide

    same_repair : (rep : Repair) → k.repair ≡ Some rep → rep ≡ repair
    same_repair rep m = fits_one r.law.object r.law.kind r.part r.upto r.first_views r.reads source rep repair ((h.repaired_so far low rep m).1 source possible) (mend_fits n keeps r source repair (mend_test n keeps r source b repair e) wide)

    unfinished : r.part ≡ Finish → r.law.kind ≡ Bytes → ⊥
    unfinished = mends_finish keeps r source r.law.kind r.part b (turn_in n keeps r source Mends b (mend_turn n keeps r source b repair e))

    not_finish : r.part ≡ Finish → ⊥
    not_finish m = unfinished m (areas.bytes (λ f. cc (sym m ∙ f)))

    abbrev pub mend_tally : Tally
    mend_tally = record k { mending = true; repair = Some repair; given = give k.given number repair }

    mended_with : (asks : ℕ → Bool) (mended : ℕ → Cell → ℕ) → ((x : ℕ) (cell : Cell) → (mended x cell ≡ r.law.mended x cell) ⊎ ((mended x cell ≡ r.law.number) × (mends repair cell ≡ true)))
        → ((x : ℕ) → asks x ≡ true → ((cell : Cell) → mends repair cell ≡ true → mended x cell ≡ r.law.number) ⊎ (asked_in r Mends x ≡ true))
        → Mended n keeps Mends r.part r.law.kind asks (λ s. r.possible s && may_heal n keeps r s b (Mend repair)) r.first_views r.reads r.upto r.law.object r.law.number mended mend_tally
    mended_with asks mended grows new = record {
      mending = λ m first. omega arith;
      no_bytes = h.no_bytes;
      unmended = λ first up. absurd (omega (arith, up));
      repaired_so = λ f l rep m. (omega arith, λ s p. subst (λ x. Fits r.law.object r.law.kind r.part r.upto r.first_views r.reads s x) (rep_is repair rep m) (fits_at s p));
      finish_none = λ f m. absurd (not_finish m);
      asked_mended = λ at x m. record { rep = repair; is = refl; brings = brought x m };
      covered = λ s x p below q cell real o c m z. h.covered s x (and_left _ _ p) below q cell real o c (before (len_of (r.first_views s)) cell m) (was_zero x cell z);
      finished = λ m s p. absurd (not_finish m);
      no_settling = λ m at. omega (arith, at);
      level = λ s x p below q cell. levels s x p below q cell (bool_or (mends repair cell));
    }
      where
        rep_is : (x y : Repair) → Some x ≡ Some y → x ≡ y
        rep_is x y m = cc m

        brought : (x : ℕ) → asks x ≡ true → (cell : Cell) → mends repair cell ≡ true → mended x cell ≡ r.law.number
        brought x m cell c = elim (new x m) [
          | inl fresh ↦ fresh cell c
          | inr was ↦ (
              let at = asked_is r Mends x was in
              let w = h.asked_mended (mends_is r.step at.0) x at.1 in
              let old : r.law.mended x cell ≡ r.law.number = w.brings cell (subst (λ y. mends y cell ≡ true) (sym (same_repair w.rep w.is)) c) in
              elim (grows x cell) [ inl same ↦ same ∙ old | inr now ↦ now.0 ]
              )
        ]

        was_zero : (x : ℕ) (cell : Cell) → mended x cell ≡ 0 → r.law.mended x cell ≡ 0
        was_zero x cell z = elim (grows x cell) [ inl same ↦ sym same ∙ z | inr now ↦ absurd (some_number far (sym now.0 ∙ z)) ]

        before : (len : ℕ) (cell : Cell) → Brought Mends r.part r.upto len cell → Brought r.step r.part r.upto len cell
        before len (Byte g i) (inl w) = elim w.0 [ inl later ↦ inl (inl later, w.1) | inr m ↦ absurd (omega (arith, m)) ]
        before len (Byte g i) (inr l) = inr l
        before len (Attr g i) m = absurd (omega (arith, m))
        before len (Entry g i) m = absurd (omega (arith, m))

        given_yes : (cell : Cell) → mends repair cell ≡ true → (if mends repair cell then number else k.given cell) ≡ number
        given_yes cell c = rw c refl

        given_no : (cell : Cell) → mends repair cell ≡ false → (if mends repair cell then number else k.given cell) ≡ k.given cell
        given_no cell c = rw c refl

        le : (x y z : ℕ) → x ≡ y → z ≡ y → x ≤ z
        le x y z m c = omega (arith, m, c)

        le_from : (x y z w : ℕ) → x ≡ y → w ≡ z → y ≤ z → x ≤ w
        le_from x y z w m c l = omega (arith, m, c, l)

        levels : (s x : ℕ) → (r.possible s && may_heal n keeps r s b (Mend repair)) ≡ true → x < n → raise_set keeps r.first_views s r.law.kind x ≡ true → (cell : Cell) → (mends repair cell ≡ true) ⊎ (mends repair cell ≡ false)
            → ((if mends repair cell then number else k.given cell) ≤ mended x cell) ⊎ Pending Mends (asks x) (Some repair) cell
        levels s x p below q cell (inl c) = elim (bool_or (asks x)) [
          | inl m ↦ inl (le _ r.law.number (mended x cell) (given_yes cell c ∙ number_is) (brought x m cell c))
          | inr m ↦ inr (record { at = refl; unasked = m; rep = repair; is = refl; brings = c })
        ]
        levels s x p below q cell (inr c) = elim (h.level s x (and_left _ _ p) below q cell) [
          | inl fine ↦ inl (le_from _ (k.given cell) (r.law.mended x cell) (mended x cell) (given_no cell c) (elim (grows x cell) [ inl same ↦ same | inr now ↦ absurd (true≢false (sym now.1 ∙ c)) ]) fine)
          | inr w ↦ absurd (true≢false (sym w.brings ∙ ap (λ y. mends y cell) (same_repair w.rep w.is) ∙ c))
        ]

    -- the Mend that was done, or is asked again
    pub mend_told : (told : Told) → fails told ≡ false → MendAfter (Mend repair) told mend_tally
    mend_told Done ok = mended_with (with (asked_in r Mends) b) (weak.mend_cells r.law.mended r.law.number b repair) grows new
      where
        grows : (x : ℕ) (cell : Cell) → ((if (x == b) && mends repair cell then r.law.number else r.law.mended x cell) ≡ r.law.mended x cell) ⊎ (((if (x == b) && mends repair cell then r.law.number else r.law.mended x cell) ≡ r.law.number) × (mends repair cell ≡ true))
        grows x cell = go (x == b) (mends repair cell)
          where
            go : (hit brings : Bool) → ((if hit && brings then r.law.number else r.law.mended x cell) ≡ r.law.mended x cell) ⊎ (((if hit && brings then r.law.number else r.law.mended x cell) ≡ r.law.number) × (brings ≡ true))
            go true true = inr (refl, refl)
            go true false = inl refl
            go false brings = inl refl

        new : (x : ℕ) → with (asked_in r Mends) b x ≡ true → ((cell : Cell) → mends repair cell ≡ true → (if (x == b) && mends repair cell then r.law.number else r.law.mended x cell) ≡ r.law.number) ⊎ (asked_in r Mends x ≡ true)
        new x m = elim (with_cases (asked_in r Mends) b x m) [
          | inl here ↦ inl (λ cell c. both r.law.number (r.law.mended x cell) (x == b) (mends repair cell) (eq-eqb x b here) c)
          | inr was ↦ inr was
        ]
          where
            both : (y z : ℕ) (hit brings : Bool) → hit ≡ true → brings ≡ true → (if hit && brings then y else z) ≡ y
            both y z true true p q = refl
            both y z true false p q = absurd (true≢false (sym q))
            both y z false brings p q = absurd (true≢false (sym p))
    mend_told NotConnected ok = absurd (true≢false ok)
    mend_told Failed ok = absurd (true≢false ok)
    mend_told _ ok = mended_with (asked_in r Mends) r.law.mended (λ x cell. inl refl) (λ x m. inr m)
