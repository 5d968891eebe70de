-- The bricks whose dirty numbers a heal raised: exactly those that it will change.
use Rattle.afr_base.specs.declared.ids.Kind.{Kind}
use Rattle.afr_base.specs.declared.ids.Kind.TheVariants.{Attrs, Bytes, Names}
use Rattle.afr_law.proofs.Discipline.AskFields.{WorkLocked, frees_heal, frees_work, heal_locked, sees, work_locked}
use Rattle.afr_model_moves.specs.Discipline.{MovesExactly, note, present}
use Rattle.afr_model_moves.specs.Heal.{MayHeal, MayHealBegin}
use Rattle.afr_model_moves.specs.Note.{breaks, fails, left_in_heal, next_part, put, view_of}
use Rattle.afr_model_moves.specs.Register.{Applies, Exact, Finish, HealLocks, HealPart, HealPres, HealUnlocks, Looks, Mends, Open, Opening, Piece, Posts, Pres, Reads, Settles, Step, Unlocks, Untouched, WorkLocks, asked_in, holder, over, rank, untouched, whole_area}
use Rattle.afr_model_moves.specs.Steps.{may_heal, other, pres_at, pres_over, raised}
use Rattle.afr_law.proofs.Heals.Along.{healed_by, healing_now, opened_by}
use Rattle.afr_law.proofs.Heals.Answers.{Honestly}
use Rattle.afr_law.proofs.Heals.Areas.{AreasIn, areas_now, opening_or}
use Rattle.afr_law.proofs.Heals.Holds.{kept_law}
use Rattle.afr_law.proofs.Heals.Sights.{not_opening, sights_now}
use Rattle.afr_law.proofs.Heals.Conditions.{Resumes, Starts, Waits, WorkPlace, asked_is, asked_now, attrs_turn, bytes_turn, heal_lock_step, heal_unlock_over, list_turn, look_step, mend_pres, mends_pres, onward_object, over_at, passed_over, pre_onward, pre_turn, pres_passed, settle_mends, settles_mends, unlock_over, work_place}
use Rattle.afr_law.proofs.Heals.Views.{SightsIn}
use Rattle.afr_law.proofs.Discipline.Inner.{turn_in, turn_low}
use Rattle.afr_model_moves.specs.Rules.{fresh, Register, heal_area}
use Rattle.afr_model_moves.specs.Lines.{ask_by, heal_begin_by, look_at, pre_on}
use Rattle.afr_law.proofs.Discipline.Projection.{tally_at}
use Rattle.afr_model_moves.specs.Sets.{with}
use Rattle.afr_law.proofs.Discipline.StagesAlong.{StageOf, stage_now}
use Rattle.afr_model_moves.specs.Tally.{Tally, blank, note_tally}
use Rattle.afr_law.proofs.Discipline.Transactions.{held_view}
use Rattle.afr_lines.specs.declared.answer.Told.{Told}
use Rattle.afr_lines.specs.declared.answer.Told.TheVariants.{Done, Failed, NotConnected, Seen}
use Rattle.afr_lines.specs.declared.request.Area.{Area}
use Rattle.afr_lines.specs.declared.request.Request.{Request}
use Rattle.afr_lines.specs.declared.request.Request.TheVariants.{Apply, Index, List, Lock, Look, Mend, Post, Pre, ReadAttr, ReadAttrs, ReadBytes, ReadName, Settle, Unlock}
use Rattle.afr_lines.specs.Overlap.{same_area}
use Rattle.afr_object.specs.declared.entry.View.{View}
use Rattle.afr_lines.specs.declared.lock.Domain.TheVariants.{Heal, Work}
use Rattle.std.proofs.Common.{Bool, ap, arith, false, inl, inr, not, refl, subst, sym, true, true≢false, ℕ, ◌&&◌, ◌<◌, ◌∙◌, ◌≡◌, ◌≤◌, ◌⊎◌}
use Rattle.std.proofs.lemmas.Bool.Decides.{nat_tests}
use Rattle.std.specs.Prelude.{Option, Some, if◌then◌else◌, nat_le, ◌==◌}
use Rattle.afr_model_moves.specs.Past.{Log, is_gone, last}
use Rattle.afr_model_moves.specs.Rules as weak
use Rattle.std.proofs.lemmas.Bool.{eqb-true}
use Rattle.afr_base.specs.Bricks.{and_left, and_right}
use Rattle.afr_model_moves.proofs.Tests.{with_more, with_self, with_cases, next_not_opening}

-- the bricks that a heal from s changes
abbrev pub raise_set : (ℕ → Kind → Bool) → (ℕ → Option View) → ℕ → Kind → ℕ → Bool
raise_set keeps views s Bytes x = holder views x && not (x == s) && keeps x Bytes
raise_set keeps views s Attrs x = holder views x && not (x == s)
raise_set keeps views s Names x = holder views x

pub pres_set : (keeps : ℕ → Kind → Bool) (r : Exact) (s : ℕ) (kind : Kind) (part : HealPart) (x : ℕ) → part ≡ Opening → pres_at keeps r s kind part x ≡ raise_set keeps r.first_views s kind x
pres_set keeps r s Bytes Opening x e = refl
pres_set keeps r s Attrs part x e = refl
pres_set keeps r s Names part x e = refl
pres_set keeps r s Bytes Piece x e = absurd (cc e)
pres_set keeps r s Bytes Finish x e = absurd (cc e)

-- only the first part raises
pub pres_opening : (keeps : ℕ → Kind → Bool) (r : Exact) (s : ℕ) (kind : Kind) (part : HealPart) (x : ℕ) → ((part ≡ Opening → ⊥) → kind ≡ Bytes) → pres_at keeps r s kind part x ≡ true → part ≡ Opening
pres_opening keeps r s kind Opening x bytes e = refl
pres_opening keeps r s Bytes Piece x bytes e = absurd (true≢false (sym e))
pres_opening keeps r s Bytes Finish x bytes e = absurd (true≢false (sym e))
pres_opening keeps r s Attrs Piece x bytes e = absurd (cc (bytes (λ k. cc k)))
pres_opening keeps r s Attrs Finish x bytes e = absurd (cc (bytes (λ k. cc k)))
pres_opening keeps r s Names Piece x bytes e = absurd (cc (bytes (λ k. cc k)))
pres_opening keeps r s Names Finish x bytes e = absurd (cc (bytes (λ k. cc k)))

-- raised are exactly the bricks that the heal will change, each once
pub record Raises (n : ℕ) (keeps : ℕ → Kind → Bool) (step : Step) (part : HealPart) (kind : Kind) (asks possible : ℕ → Bool) (first_views : ℕ → Option View) (raised raises : ℕ → Bool) : Type 0 where
  pub asked_raised : step ≡ HealPres → (x : ℕ) → asks x ≡ true → raised x ≡ true
  pub all_raised : (part ≡ Opening → ⊥) ⊎ (10 ≤ rank step) → (s x : ℕ) → possible s ≡ true → x < n → raise_set keeps first_views s kind x ≡ true → raised x ≡ true
  pub aside : (s x : ℕ) → raises x ≡ true → possible s ≡ true → raise_set keeps first_views s kind x ≡ true
  pub counted : (x : ℕ) → raised x ≡ true → raises x ≡ true
  pub once : part ≡ Opening → rank step ≤ 9 → (x : ℕ) → raises x ≡ true → (step ≡ HealPres) × (asks x ≡ true)

-- the same of a register and its tally
abbrev pub RaisesIn : ℕ → (ℕ → Kind → Bool) → Exact → Register → Tally → Type 0
RaisesIn n keeps r w k = Raises n keeps r.step r.part w.kind r.asked r.possible r.first_views w.raised k.raises

-- what the tally has of bricks that a Pre asked
abbrev pub tally_raises : Tally → ℕ → Request → ℕ → Bool
tally_raises k b (Pre g kind) = with k.raises b
tally_raises k b _ = k.raises

pub pres_is : (step : Step) → rank step ≡ 9 → step ≡ HealPres
pres_is HealPres k = refl
pres_is Untouched k = absurd (omega (arith, k))
pres_is Open k = absurd (omega (arith, k))
pres_is Pres k = absurd (omega (arith, k))
pres_is Applies k = absurd (omega (arith, k))
pres_is Posts k = absurd (omega (arith, k))
pres_is HealLocks k = absurd (omega (arith, k))
pres_is WorkLocks k = absurd (omega (arith, k))
pres_is Looks k = absurd (omega (arith, k))
pres_is Reads k = absurd (omega (arith, k))
pres_is Mends k = absurd (omega (arith, k))
pres_is Settles k = absurd (omega (arith, k))
pres_is Unlocks k = absurd (omega (arith, k))
pres_is HealUnlocks k = absurd (omega (arith, k))

pub ten_or : (m : ℕ) → (m ≤ 9) ⊎ (10 ≤ m)
ten_or m = go (nat_le m 9) refl
  where
    go : (low : Bool) → nat_le m 9 ≡ low → (m ≤ 9) ⊎ (10 ≤ m)
    go true e = inl (grind (arith, nat_tests))
    go false e = inr (grind (arith, nat_tests))

module _ (n : ℕ) (keeps : ℕ → Kind → Bool) (log : Log) (honest : Honestly log) (t a b : ℕ) (r : Exact) (k : Tally) (below : b < n) (inside : r.law.heal ≡ true)
    (s : StageOf r) (areas : AreasIn r r.law) (sights : SightsIn n log t a r r.law) (h : RaisesIn n keeps r r.law k) where
  abbrev pub still_possible : Request → ℕ → Bool
  still_possible request s = r.possible s && may_heal n keeps r s b request

  abbrev pub RaisesAfter : Request → Told → (ℕ → Bool) → Type 0
  RaisesAfter request told raises = Raises n keeps (left_in_heal n r t b request told).step (left_in_heal n r t b request told).part (weak.dropping (is_gone told) b (weak.note_ask n r.law b request told)).kind (left_in_heal n r t b request told).asked
      (still_possible request) (left_in_heal n r t b request told).first_views (weak.dropping (is_gone told) b (weak.note_ask n r.law b request told)).raised raises

  -- nothing is raised before the first Pre
  none_yet : r.part ≡ Opening → rank r.step ≤ 8 → (x : ℕ) → k.raises x ≡ true → ⊥
  none_yet e low x m = (let at : rank r.step ≡ 9 = ap rank (h.once e (omega (arith, low)) x m).0 in absurd (omega (arith, low, at)))

  unraised : (next : Step) (part : HealPart) (kind : Kind) (asks possible raised : ℕ → Bool) (first_views : ℕ → Option View) → part ≡ Opening → rank next ≤ 8 → ((x : ℕ) → k.raises x ≡ true → ⊥) → ((x : ℕ) → raised x ≡ true → r.law.raised x ≡ true)
      → Raises n keeps next part kind asks possible first_views raised k.raises
  unraised next part kind asks possible raised first_views e low none less = record {
    asked_raised = λ at. absurd (not_pres (ap rank at));
    all_raised = λ m. elim m [ inl later ↦ absurd (later e) | inr far ↦ absurd (omega (arith, far, low)) ];
    aside = λ s x m. absurd (none x m);
    counted = λ x m. absurd (none x (h.counted x (less x m)));
    once = λ e low x m. absurd (none x m);
  }
    where
      not_pres : rank next ≡ 9 → ⊥
      not_pres e = omega (arith, e, low)

  -- a step of a later part
  in_later : (next : Step) (part : HealPart) (kind : Kind) (asks possible raised : ℕ → Bool) → (r.part ≡ Opening → ⊥) ⊎ (10 ≤ rank r.step) → (part ≡ Opening → ⊥) → (rank next ≡ 9 → ⊥) → kind ≡ r.law.kind → raised ≡ r.law.raised → ((s : ℕ) → possible s ≡ true → r.possible s ≡ true)
      → Raises n keeps next part kind asks possible r.first_views raised k.raises
  in_later next part kind asks possible raised was later other same_kind_now same_raised less = record {
    asked_raised = λ at. absurd (other (ap rank at));
    all_raised = λ m s x p low q. ap (λ (c : ℕ → Bool). c x) same_raised ∙ h.all_raised was s x (less s p) low (ap (λ c. raise_set keeps r.first_views s c x) (sym same_kind_now) ∙ q);
    aside = λ s x m p. ap (λ c. raise_set keeps r.first_views s c x) same_kind_now ∙ h.aside s x m (less s p);
    counted = λ x m. h.counted x (ap (λ (c : ℕ → Bool). c x) (sym same_raised) ∙ m);
    once = λ e. absurd (later e);
  }

  -- a step after the Pres of the first part, which are over
  after_pres : (next : Step) (kind : Kind) (asks possible raised : ℕ → Bool) → r.part ≡ Opening → 10 ≤ rank next → kind ≡ r.law.kind → raised ≡ r.law.raised → ((s : ℕ) → possible s ≡ true → (r.possible s ≡ true) × (pres_over n keeps r s ≡ true))
      → Raises n keeps next r.part kind asks possible r.first_views raised k.raises
  after_pres next kind asks possible raised first late same_kind_now same_raised less = record {
    asked_raised = λ at. absurd (not_pres (ap rank at));
    all_raised = λ m s x p low q. ap (λ (c : ℕ → Bool). c x) same_raised ∙ each s x (less s p).0 (less s p).1 low (ap (λ c. raise_set keeps r.first_views s c x) (sym same_kind_now) ∙ q);
    aside = λ s x m p. ap (λ c. raise_set keeps r.first_views s c x) same_kind_now ∙ h.aside s x m (less s p).0;
    counted = λ x m. h.counted x (ap (λ (c : ℕ → Bool). c x) (sym same_raised) ∙ m);
    once = λ e low. absurd (omega (arith, late, low));
  }
    where
      not_pres : rank next ≡ 9 → ⊥
      not_pres e = omega (arith, e, late)

      each : (s x : ℕ) → r.possible s ≡ true → pres_over n keeps r s ≡ true → x < n → raise_set keeps r.first_views s r.law.kind x ≡ true → r.law.raised x ≡ true
      each s x p over low q = elim (ten_or (rank r.step)) [
        | inl early ↦ (
            let asked = over_at n (pres_at keeps r s r.law.kind r.part) (asked_in r HealPres) (passed_over n keeps r s HealPres (pres_passed n keeps r s over) early) x low (pres_set keeps r s r.law.kind r.part x first ∙ q) in
            let at = asked_is r HealPres x asked in
            h.asked_raised (pres_is r.step at.0) x at.1
            )
        | inr late ↦ h.all_raised (inr late) s x p low q
      ]

  less_possible : (request : Request) (s : ℕ) → still_possible request s ≡ true → r.possible s ≡ true
  less_possible request s e = and_left _ _ e

  pre_raises : (g : ℕ) (kind : Kind) (told : Told) (took : Bool) (source : ℕ) → log t ≡ Some (ask_by a b (pre_on g kind) told took) → may_heal n keeps r source b (pre_on g kind) ≡ true → fails told ≡ false → RaisesAfter (pre_on g kind) told (with k.raises b)
  pre_raises g kind told took source is e ok = subst (λ d. RaisesAfter (pre_on g kind) d (with k.raises b)) (sym done) (record {
    asked_raised = λ at x m. elim (with_cases (asked_in r HealPres) b x m) [
      | inl here ↦ subst (λ y. with r.law.raised b y ≡ true) (sym here) (with_self r.law.raised b)
      | inr was ↦ (let w = asked_is r HealPres x was in with_more r.law.raised b x (h.asked_raised (pres_is r.step w.0) x w.1))
    ];
    all_raised = λ m. elim m [ inl later ↦ absurd (later first) | inr far ↦ absurd (omega (arith, far)) ];
    aside = λ s x m p. elim (with_cases k.raises b x m) [
      | inl here ↦ subst (λ y. raise_set keeps r.first_views s r.law.kind y ≡ true) (sym here) (sym (pres_set keeps r s r.law.kind r.part b first) ∙ turn_in n keeps r s HealPres b (pre_turn n keeps r s b g kind (and_right _ _ p)))
      | inr was ↦ h.aside s x was (less_possible (pre_on g kind) s p)
    ];
    counted = λ x m. elim (with_cases r.law.raised b x m) [
      | inl here ↦ subst (λ y. with k.raises b y ≡ true) (sym here) (with_self k.raises b)
      | inr was ↦ with_more k.raises b x (h.counted x was)
    ];
    once = λ p low x m. (
      refl,
      elim (with_cases k.raises b x m) [
        | inl here ↦ subst (λ y. with (asked_in r HealPres) b y ≡ true) (sym here) (with_self (asked_in r HealPres) b)
        | inr was ↦ (let w = h.once first under x was in with_more (asked_in r HealPres) b x (ap (λ (c : ℕ → Bool). c x) (asked_now r HealPres w.0) ∙ w.1))
      ],
    );
  })
    where
      set : pres_at keeps r source r.law.kind r.part b ≡ true
      set = turn_in n keeps r source HealPres b (pre_turn n keeps r source b g kind e)

      first : r.part ≡ Opening
      first = pres_opening keeps r source r.law.kind r.part b areas.bytes set

      under : rank r.step ≤ 9
      under = turn_low n keeps r source HealPres b (pre_turn n keeps r source b g kind e)

      holds : (kind : Kind) → raise_set keeps r.first_views source kind b ≡ true → holder r.first_views b ≡ true
      holds Bytes m = and_left _ _ (and_left _ _ m)
      holds Attrs m = and_left _ _ m
      holds Names m = m

      object_same : g ≡ r.law.object
      object_same = eqb-true g r.law.object (onward_object n keeps r source g kind (pre_onward n keeps r source b g kind e))

      done : told ≡ Done
      done = (
          let v = held_view r.first_views b (holds r.law.kind (sym (pres_set keeps r source r.law.kind r.part b first) ∙ set)) in
          let o = sights.origin b v.0 v.1 in
          honest.carried o.l t a b r.law.object o.view kind told took o.past o.is (is ∙ (λ j. Some (ask_by a b (pre_on (object_same j) kind) told took))) ok
          )

  -- locks, looks and reads raise nothing
  quiet_raises : (next : Step) (kind : Kind) (asks possible raised : ℕ → Bool) → rank r.step ≤ 8 → rank next ≤ 8 → kind ≡ r.law.kind → raised ≡ r.law.raised → ((s : ℕ) → possible s ≡ true → r.possible s ≡ true)
      → Raises n keeps next r.part kind asks possible r.first_views raised k.raises
  quiet_raises next kind asks possible raised low up same_kind_now same_raised less = elim (opening_or r.part) [
    | inl e ↦ unraised next r.part kind asks possible raised r.first_views e up (none_yet e low) (λ x m. ap (λ (c : ℕ → Bool). c x) (sym same_raised) ∙ m)
    | inr later ↦ in_later next r.part kind asks possible raised (inl later) later (λ at. omega (arith, at, up)) same_kind_now same_raised less
  ]

  -- Mends, Settles and unlocks come after the Pres
  pub late_raises : (next : Step) (kind : Kind) (asks possible raised : ℕ → Bool) → 10 ≤ rank next → kind ≡ r.law.kind → raised ≡ r.law.raised → ((s : ℕ) → possible s ≡ true → (r.possible s ≡ true) × (pres_over n keeps r s ≡ true))
      → Raises n keeps next r.part kind asks possible r.first_views raised k.raises
  late_raises next kind asks possible raised late same_kind_now same_raised less = elim (opening_or r.part) [
    | inl e ↦ after_pres next kind asks possible raised e late same_kind_now same_raised less
    | inr later ↦ in_later next r.part kind asks possible raised (inl later) later (λ at. omega (arith, at, late)) same_kind_now same_raised (λ s p. (less s p).0)
  ]

  work_raises : (area : Area) (told : Told) (source : ℕ) → may_heal n keeps r source b (Lock Work area) ≡ true → RaisesAfter (Lock Work area) told k.raises
  work_raises area told source e = go (work_place n keeps r source b area e)
    where
      w : WorkLocked n r.law (weak.dropping (is_gone told) b (weak.note_ask n r.law b (Lock Work area) told)) b area (is_gone told)
      w = work_locked n r.law b area told

      stays : rank r.step ≤ 6 → next_part r area ≡ r.part → RaisesAfter (Lock Work area) told k.raises
      stays low same = (
          let next = weak.dropping (is_gone told) b (weak.note_ask n r.law b (Lock Work area) told) in
          let l = left_in_heal n r t b (Lock Work area) told in
          subst (λ p. Raises n keeps WorkLocks p next.kind l.asked (still_possible (Lock Work area)) r.first_views next.raised k.raises) (sym same)
          (quiet_raises WorkLocks next.kind l.asked (still_possible (Lock Work area)) next.raised (omega (arith, low)) (omega arith) w.rest.kind w.rest.raised (less_possible (Lock Work area)))
          )

      go : WorkPlace n keeps r source b area → RaisesAfter (Lock Work area) told k.raises
      go (Waits at same own lock fresh) = (let six : rank r.step ≡ 6 = ap rank at in stays (omega (arith, six)) same)
      go (Starts five same lock) = stays (omega (arith, five)) same
      go (Resumes twelve same idle bytes unfinished lock chosen) = in_later WorkLocks (next_part r area) (weak.dropping (is_gone told) b (weak.note_ask n r.law b (Lock Work area) told)).kind (left_in_heal n r t b (Lock Work area) told).asked (still_possible (Lock Work area)) (weak.dropping (is_gone told) b (weak.note_ask n r.law b (Lock Work area) told)).raised
          (inr (omega (arith, twelve))) (λ k. next_not_opening (same_area (whole_area r.law.object Bytes) area) (sym same ∙ k)) (λ at. omega (arith, at)) w.rest.kind w.rest.raised (less_possible (Lock Work area))

  look_raises : (g : ℕ) (told : Told) (source : ℕ) → may_heal n keeps r source b (look_at g) ≡ true → RaisesAfter (look_at g) told k.raises
  look_raises g told source e = elim (opening_or r.part) [
    | inl first ↦ unraised Looks r.part (weak.dropping (is_gone told) b (weak.note_ask n r.law b (look_at g) told)).kind (left_in_heal n r t b (look_at g) told).asked (still_possible (look_at g)) (weak.dropping (is_gone told) b (weak.note_ask n r.law b (look_at g) told)).raised (left_in_heal n r t b (look_at g) told).first_views first (omega arith) (none_yet first (omega (arith, seven))) (λ x m. ap (λ (c : ℕ → Bool). c x) (sym (same told).1) ∙ m)
    | inr later ↦ subst (λ (v : ℕ → Option View). Raises n keeps Looks r.part (weak.dropping (is_gone told) b (weak.note_ask n r.law b (look_at g) told)).kind (left_in_heal n r t b (look_at g) told).asked (still_possible (look_at g)) v (weak.dropping (is_gone told) b (weak.note_ask n r.law b (look_at g) told)).raised k.raises) (sym (ap (λ (c : Bool). if c then put r.first_views b (view_of told) else r.first_views) (not_opening r.part later)))
        (in_later Looks r.part (weak.dropping (is_gone told) b (weak.note_ask n r.law b (look_at g) told)).kind (left_in_heal n r t b (look_at g) told).asked (still_possible (look_at g)) (weak.dropping (is_gone told) b (weak.note_ask n r.law b (look_at g) told)).raised (inl later) later (λ at. omega (arith, at)) (same told).0 (same told).1 (less_possible (look_at g)))
  ]
    where
      seven : rank r.step ≡ 7
      seven = look_step n keeps r source b g e

      same : (d : Told) → ((weak.dropping (is_gone d) b (weak.note_ask n r.law b (look_at g) d)).kind ≡ r.law.kind) × ((weak.dropping (is_gone d) b (weak.note_ask n r.law b (look_at g) d)).raised ≡ r.law.raised)
      same (Seen view) = (let v = sees r.law b g view in (v.kind, v.raised))
      same NotConnected = (refl, refl)
      same _ = (refl, refl)

  reading_raises : (request : Request) (asks : ℕ → Bool) (told : Told) → rank r.step ≤ 8 → Raises n keeps Reads r.part (weak.dropping (is_gone told) b r.law).kind asks (still_possible request) r.first_views (weak.dropping (is_gone told) b r.law).raised k.raises
  reading_raises request asks told low = go (is_gone told)
    where
      go : (gone : Bool) → Raises n keeps Reads r.part (weak.dropping gone b r.law).kind asks (still_possible request) r.first_views (weak.dropping gone b r.law).raised k.raises
      go true = quiet_raises Reads r.law.kind asks (still_possible request) r.law.raised low (omega arith) refl refl (less_possible request)
      go false = quiet_raises Reads r.law.kind asks (still_possible request) r.law.raised low (omega arith) refl refl (less_possible request)

  pub raises_asked : (request : Request) (told : Told) (took : Bool) (source : ℕ) → log t ≡ Some (ask_by a b request told took) → may_heal n keeps r source b request ≡ true → breaks r request told ≡ false → RaisesAfter request told (tally_raises k b request)
  raises_asked (Lock Heal area) told took source is e un = (
      let five : rank r.step ≡ 5 = heal_lock_step n keeps r source b area e in
      let w = heal_locked n r.law b area told in
      quiet_raises HealLocks (weak.dropping (is_gone told) b (weak.note_ask n r.law b (Lock Heal area) told)).kind (with (asked_in r HealLocks) b) (still_possible (Lock Heal area)) (weak.dropping (is_gone told) b (weak.note_ask n r.law b (Lock Heal area) told)).raised (omega (arith, five)) (omega arith) w.rest.kind w.rest.raised (less_possible (Lock Heal area))
      )
  raises_asked (Lock Work area) told took source is e un = work_raises area told source e
  raises_asked (Look g) told took source is e un = look_raises g.0 told source e
  raises_asked (ReadBytes g at len) told took source is e un = reading_raises (ReadBytes g at len) (left_in_heal n r t b (ReadBytes g at len) told).asked told (turn_low n keeps r source Reads b (bytes_turn n keeps r source b g at len e))
  raises_asked (ReadAttrs g) told took source is e un = reading_raises (ReadAttrs g) (left_in_heal n r t b (ReadAttrs g) told).asked told (turn_low n keeps r source Reads b (attrs_turn n keeps r source b g e))
  raises_asked (List g) told took source is e un = reading_raises (List g) (left_in_heal n r t b (List g) told).asked told (turn_low n keeps r source Reads b (list_turn n keeps r source b g e))
  raises_asked (Pre g kind) told took source is e un = pre_raises g.0 kind told took source is e un
  raises_asked (Mend repair) told took source is e un = mend told
    where
      less : (s : ℕ) → still_possible (Mend repair) s ≡ true → (r.possible s ≡ true) × (pres_over n keeps r s ≡ true)
      less s p = (less_possible (Mend repair) s p, mend_pres n keeps r s b repair (and_right (r.possible s) (may_heal n keeps r s b (Mend repair)) p))

      mend : (d : Told) → RaisesAfter (Mend repair) d k.raises
      mend Done = late_raises Mends r.law.kind (with (asked_in r Mends) b) (still_possible (Mend repair)) r.law.raised (omega arith) refl refl less
      mend NotConnected = late_raises Mends r.law.kind (with (asked_in r Mends) b) (still_possible (Mend repair)) r.law.raised (omega arith) refl refl less
      mend Failed = late_raises Mends r.law.kind (with (asked_in r Mends) b) (still_possible (Mend repair)) r.law.raised (omega arith) refl refl less
      mend _ = late_raises Mends r.law.kind (asked_in r Mends) (still_possible (Mend repair)) r.law.raised (omega arith) refl refl less
  raises_asked (Settle g kind less) told took source is e un = settle told
    where
      over_now : (s : ℕ) → still_possible (Settle g kind less) s ≡ true → (r.possible s ≡ true) × (pres_over n keeps r s ≡ true)
      over_now s p = (less_possible (Settle g kind less) s p, mends_pres n keeps r s (settle_mends n keeps r s b g.0 kind less (and_right (r.possible s) (may_heal n keeps r s b (Settle g kind less)) p)))

      settle : (d : Told) → RaisesAfter (Settle g kind less) d k.raises
      settle Done = late_raises Settles r.law.kind (with (asked_in r Settles) b) (still_possible (Settle g kind less)) r.law.raised (omega arith) refl refl over_now
      settle NotConnected = late_raises Settles r.law.kind (with (asked_in r Settles) b) (still_possible (Settle g kind less)) r.law.raised (omega arith) refl refl over_now
      settle Failed = late_raises Settles r.law.kind (with (asked_in r Settles) b) (still_possible (Settle g kind less)) r.law.raised (omega arith) refl refl over_now
      settle _ = late_raises Settles r.law.kind (asked_in r Settles) (still_possible (Settle g kind less)) r.law.raised (omega arith) refl refl over_now
  raises_asked (Unlock Work area) told took source is e un = (
      let f = (frees_work n r.law b area told).0 in
      let w = weak.note_ask n r.law b (Unlock Work area) told in
      let l = left_in_heal n r t b (Unlock Work area) told in
      subst (λ (w : Register). Raises n keeps Unlocks r.part w.kind l.asked (still_possible (Unlock Work area)) r.first_views w.raised k.raises) (sym (kept_law (is_gone told) b w un))
      (late_raises Unlocks w.kind l.asked (still_possible (Unlock Work area)) w.raised (omega arith) f.rest.kind f.rest.raised
      (λ s p. (less_possible (Unlock Work area) s p, mends_pres n keeps r s (settles_mends n keeps r s (unlock_over n keeps r s b area (and_right (r.possible s) (may_heal n keeps r s b (Unlock Work area)) p))))))
      )
  raises_asked (Unlock Heal area) told took source is e un = (
      let f = frees_heal n r.law b area told in
      let w = weak.note_ask n r.law b (Unlock Heal area) told in
      let l = left_in_heal n r t b (Unlock Heal area) told in
      subst (λ (w : Register). Raises n keeps HealUnlocks r.part w.kind l.asked (still_possible (Unlock Heal area)) r.first_views w.raised k.raises) (sym (kept_law (is_gone told) b w un))
      (late_raises HealUnlocks w.kind l.asked (still_possible (Unlock Heal area)) w.raised (omega arith) f.rest.kind f.rest.raised
      (λ s p. (less_possible (Unlock Heal area) s p, mends_pres n keeps r s (settles_mends n keeps r s (heal_unlock_over n keeps r s b area (and_right (r.possible s) (may_heal n keeps r s b (Unlock Heal area)) p))))))
      )
  raises_asked (Apply q) told took source is e un = absurd (true≢false (sym e))
  raises_asked (Post q g kind missed) told took source is e un = absurd (true≢false (sym e))
  raises_asked (ReadName g name) told took source is e un = absurd (true≢false (sym e))
  raises_asked (ReadAttr g key) told took source is e un = absurd (true≢false (sym e))
  raises_asked Index told took source is e un = absurd (true≢false (sym e))

module _ (n : ℕ) (keeps : ℕ → Kind → Bool) (log : Log) (honest : Honestly log) (moves : MovesExactly n keeps log) where
  first_lock : (t a b g : ℕ) (told : Told) (took : Bool) → RaisesIn n keeps (opened_by n keeps t a b (heal_area g) told took) (opened_by n keeps t a b (heal_area g) told took).law blank
  first_lock t a b g told took = (
      let w = heal_locked n untouched.law b (heal_area g) told in
      record {
        asked_raised = λ at. absurd (cc at);
        all_raised = λ m. elim m [ inl later ↦ absurd (later refl) | inr far ↦ absurd (omega (arith, far)) ];
        aside = λ s x m. absurd (cc m);
        counted = λ x m. absurd (true≢false (sym m ∙ ap (λ (c : ℕ → Bool). c x) w.rest.raised));
        once = λ e low x m. absurd (cc m);
      }
      )

  begins : (r : Exact) (k : Tally) (t a g : ℕ) (kind : Kind) → MayHealBegin n r g kind → RaisesIn n keeps r r.law k → RaisesIn n keeps (note n keeps r t (Some (heal_begin_by a g kind))) (note n keeps r t (Some (heal_begin_by a g kind))).law k
  begins r k t a g kind may h = record {
    asked_raised = λ at. absurd (cc at);
    all_raised = λ m s x p low q. elim m [ inl later ↦ h.all_raised (inl later) s x p low (ap (λ c. raise_set keeps r.first_views s c x) (sym (may.later later)) ∙ q) | inr far ↦ absurd (omega (arith, far)) ];
    aside = λ s x m p. elim (opening_or r.part) [ inl e ↦ absurd (none e x m) | inr later ↦ ap (λ c. raise_set keeps r.first_views s c x) (may.later later) ∙ h.aside s x m p ];
    counted = h.counted;
    once = λ e low x m. absurd (none e x m);
  }
    where
      none : r.part ≡ Opening → (x : ℕ) → k.raises x ≡ true → ⊥
      none e x m = (let six : rank r.step ≡ 6 = ap rank may.step in let nine : rank r.step ≡ 9 = ap rank (h.once e (omega (arith, six)) x m).0 in omega (arith, six, nine))

  pub raises_now : (t a : ℕ) → (present n keeps log t a).law.heal ≡ true → (present n keeps log t a).broken ≡ false → RaisesIn n keeps (present n keeps log t a) (present n keeps log t a).law (tally_at log t a)
  raises_now = healing_now n keeps log moves (λ t a r k. RaisesIn n keeps r r.law k) (λ t a r k h. h) (λ t a b g told took is below. first_lock t a b g told took)
      (λ t a b request told took is below m un h. step t a b request told took m (raises_asked n keeps log honest t a b (present n keeps log t a) (tally_at log t a) below m.inside (stage_now n keeps log moves t a) (areas_now n keeps log moves t a m.inside m.whole) (sights_now n keeps log honest moves t a m.inside m.whole) h request told took m.source is m.allowed un))
      (λ t a g kind is may h. begins (present n keeps log t a) (tally_at log t a) t a g kind may h)
    where
      step : (t a b : ℕ) (request : Request) (told : Told) (took : Bool) → MayHeal n keeps (present n keeps log t a) b request
          → Raises n keeps (left_in_heal n (present n keeps log t a) t b request told).step (left_in_heal n (present n keeps log t a) t b request told).part (weak.dropping (is_gone told) b (weak.note_ask n (present n keeps log t a).law b request told)).kind (left_in_heal n (present n keeps log t a) t b request told).asked
          (λ s. (present n keeps log t a).possible s && may_heal n keeps (present n keeps log t a) s b request) (left_in_heal n (present n keeps log t a) t b request told).first_views (weak.dropping (is_gone told) b (weak.note_ask n (present n keeps log t a).law b request told)).raised (tally_raises (tally_at log t a) b request)
          → RaisesIn n keeps (healed_by n keeps (present n keeps log t a) t a b request told took) (healed_by n keeps (present n keeps log t a) t a b request told took).law (note_tally (last log t a) (tally_at log t a) (Some (ask_by a b request told took)))
      step t a b (Pre g kind) told took m w = w
      step t a b (Lock domain area) told took m w = w
      step t a b (Unlock domain area) told took m w = w
      step t a b (Look g) told took m w = w
      step t a b (ReadBytes g at len) told took m w = w
      step t a b (ReadAttrs g) told took m w = w
      step t a b (List g) told took m w = w
      step t a b (Mend repair) told took m w = w
      step t a b (Settle g kind less) told took m w = w
      step t a b (Apply q) told took m w = absurd (true≢false (sym m.allowed))
      step t a b (Post q g kind missed) told took m w = absurd (true≢false (sym m.allowed))
      step t a b (ReadName g name) told took m w = absurd (true≢false (sym m.allowed))
      step t a b (ReadAttr g key) told took m w = absurd (true≢false (sym m.allowed))
      step t a b Index told took m w = absurd (true≢false (sym m.allowed))
