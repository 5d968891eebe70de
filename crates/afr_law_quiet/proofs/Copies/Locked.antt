-- In an undisturbed heal every brick grants the Heal lock, and then the Work lock of the first part.
use Rattle.std.proofs.Common.{Bool, ap, arith, false, inl, inr, not, refl, subst, sym, true, true≢false, ℕ, ◌&&◌, ◌<◌, ◌∙◌, ◌≡◌, ◌≤◌, ◌⊎◌}
use Rattle.std.proofs.lemmas.Bool.{eqb-true}
use Rattle.std.specs.Prelude.{List as Seq, Some, if◌then◌else◌, ◌==◌}
use Rattle.afr_base.specs.Bricks.{and_left, and_right}
use Rattle.afr_base.specs.declared.ids.Gfid.{Gfid}
use Rattle.afr_base.specs.declared.ids.Kind.{Kind}
use Rattle.afr_base.specs.declared.ids.Kind.TheVariants.{Attrs, Bytes, Names}
use Rattle.afr_object.specs.declared.entry.View.{View}
use Rattle.afr_lines.specs.declared.answer.Told.{Told}
use Rattle.afr_lines.specs.declared.answer.Told.TheVariants.{Done, Given, Granted, Held, NoObject, Seen}
use Rattle.afr_lines.specs.declared.line.Line.{Line}
use Rattle.afr_lines.specs.declared.request.Area.{Area}
use Rattle.afr_lines.specs.declared.request.Request.{Request}
use Rattle.afr_lines.specs.declared.request.Request.TheVariants.{Apply, Index, List, Lock, Look, Mend, Post, Pre, ReadAttr, ReadAttrs, ReadBytes, ReadName, Settle, Unlock}
use Rattle.afr_lines.specs.declared.lock.Domain.TheVariants.{Heal, Work}
use Rattle.afr_plan.specs.declared.plan.Plan.{Plan}
use Rattle.afr_model_moves.specs.Heal.{MayHealBegin}
use Rattle.afr_model_moves.specs.Note.{breaks, left_in_heal, next_part}
use Rattle.afr_model_moves.specs.Past.{is_gone}
use Rattle.afr_model_moves.specs.Register.{Exact, HealLocks, HealPart, HealPres, Looks, Mends, Opening, Reads, Settles, Step, Unlocks, WorkLocks, asked_in, everywhere, is_finish, over, rank, same_step}
use Rattle.afr_model_moves.specs.Rules as weak
use Rattle.afr_model_moves.specs.Rules.{Register, busy, is_area}
use Rattle.afr_model_moves.specs.Sets.{any, empty, with}
use Rattle.afr_model_moves.specs.Steps.{after_unlocks, is_lowest, is_next, locks_at, may_heal}
use Rattle.afr_model_moves.proofs.Tests.{some_no, with_cases, with_more, with_self}
use Rattle.afr_law.proofs.Discipline.AskFields.{frees_work, sees, work_locked}
use Rattle.afr_law.proofs.Discipline.Inner.{turn_low}
use Rattle.afr_law.proofs.Discipline.Stages.{mend_far, onward_far, settles_far}
use Rattle.afr_law.proofs.Heals.Conditions.{Resumes, Starts, Waits, WorkPlace, asked_is, attrs_onward, attrs_turn, bytes_onward, bytes_turn, heal_lock_step, list_onward, list_turn, look_step, mend_test, mend_turn, over_at, pre_onward, pre_turn, settle_onward, settle_turn, unlock_over, unlock_turn, work_place}
use Rattle.afr_law_quiet.proofs.Copies.Told.{Hears}

-- what was granted so far: the Heal lock at every brick that was asked, and at all before the Work locks, which are granted likewise in the first part
pub record Locked (n : ℕ) (step : Step) (part : HealPart) (asked healing held : ℕ → Bool) (idle : Bool) : Type 0 where
  pub granted : step ≡ HealLocks → (x : ℕ) → x < n → asked x ≡ true → healing x ≡ true
  pub whole : 6 ≤ rank step → rank step ≤ 12 → (x : ℕ) → x < n → healing x ≡ true
  pub waits : part ≡ Opening → step ≡ WorkLocks → (x : ℕ) → x < n → asked x ≡ true → held x ≡ true
  pub under : part ≡ Opening → 7 ≤ rank step → rank step ≤ 11 → (x : ℕ) → x < n → held x ≡ true
  pub free : rank step ≤ 5 → idle ≡ false

-- the same of a register
abbrev pub LockedIn : ℕ → Exact → Register → Type 0
LockedIn n r w = Locked n r.step r.part r.asked w.healing w.held (busy n w)

module _ (p : Plan) (older : Seq Line) (n : ℕ) (keeps : ℕ → Kind → Bool) (r : Exact) (t b : ℕ) (below : b < n) (h : LockedIn n r r.law) where
  abbrev pub LawAfter : Request → Told → Register
  LawAfter request told = weak.dropping (is_gone told) b (weak.note_ask n r.law b request told)

  abbrev pub LockedAfter : Request → Told → Type 0
  LockedAfter request told = LockedIn n (left_in_heal n r t b request told) (LawAfter request told)

  -- a step after the looks, where locks stay
  plain : (next : Step) (asks : ℕ → Bool) → 7 ≤ rank r.step → rank r.step ≤ 11 → 7 ≤ rank next → Locked n next r.part asks r.law.healing r.law.held (busy n r.law)
  plain next asks low up far = record {
    granted = λ e. absurd (let k : rank next ≡ 5 = ap rank e in omega (arith, k, far));
    whole = λ k l. h.whole (omega (arith, low)) (omega (arith, up));
    waits = λ f e. absurd (let k : rank next ≡ 6 = ap rank e in omega (arith, k, far));
    under = λ f k l. h.under f low up;
    free = λ k. absurd (omega (arith, k, far));
  }

  heal_lock : (area : Area) → rank r.step ≡ 5 → LockedAfter (Lock Heal area) Granted
  heal_lock area at = record {
    granted = λ e x low k. elim (with_cases (asked_in r HealLocks) b x k) [
      | inl here ↦ subst (λ y. with r.law.healing b y ≡ true) (sym here) (with_self r.law.healing b)
      | inr was ↦ (let w = asked_is r HealLocks x was in with_more r.law.healing b x (h.granted (heal_is r.step at) x low w.1))
    ];
    whole = λ k. absurd (omega (arith, k));
    waits = λ f e. absurd (cc e);
    under = λ f k. absurd (omega (arith, k));
    free = λ k. h.free (omega (arith, at));
  }
    where
      heal_is : (step : Step) → rank step ≡ 5 → step ≡ HealLocks
      heal_is HealLocks k = refl
      heal_is step k = absurd (omega (arith, k))

  -- what the first Work lock rests on
  starts_over : (s : ℕ) (area : Area) → rank r.step ≡ 5 → may_heal n keeps r s b (Lock Work area) ≡ true → over n everywhere (asked_in r HealLocks) ≡ true
  starts_over s area at e = go (same_step r.step WorkLocks) refl (same_step r.step HealLocks) refl e
    where
      go : (wait : Bool) → same_step r.step WorkLocks ≡ wait → (heal : Bool) → same_step r.step HealLocks ≡ heal
          → (if wait then is_area r.law.area area && is_lowest (locks_at r r.part) r.asked b
          else if heal then is_next n r s area && is_lowest r.law.healing empty b
          else after_unlocks n r area s && not (is_finish r.part) && is_lowest r.first_reached empty b) ≡ true → over n everywhere (asked_in r HealLocks) ≡ true
      go true q heal k m = (let six : rank r.step ≡ 6 = eqb-true (rank r.step) 6 q in absurd (omega (arith, six, at)))
      go false q true k m = and_right _ _ (and_left _ _ (and_left _ _ (and_left _ _ m)))
      go false q false k m = (let hit : (rank r.step == 5) ≡ true = rw at refl in absurd (true≢false (sym hit ∙ k)))

  -- where a Work Lock line of the first part stands, it is of the area or begins it
  module _ (s : ℕ) (area : Area) (e : may_heal n keeps r s b (Lock Work area) ≡ true) where
    own_or_idle : (is_area r.law.area area ≡ true) ⊎ (busy n r.law ≡ false)
    own_or_idle = go (work_place n keeps r s b area e)
      where
        go : WorkPlace n keeps r s b area → (is_area r.law.area area ≡ true) ⊎ (busy n r.law ≡ false)
        go (Waits at same own lock fresh) = inl own
        go (Starts five same lock) = inr (h.free (omega (arith, five)))
        go (Resumes twelve same idle bytes unfinished lock next) = inr idle

    first_held : next_part r area ≡ Opening → (x : ℕ) → x < n → asked_in r WorkLocks x ≡ true → r.law.held x ≡ true
    first_held f x low k = go (work_place n keeps r s b area e)
      where
        six : rank r.step ≡ 6
        six = (asked_is r WorkLocks x k).0

        go : WorkPlace n keeps r s b area → r.law.held x ≡ true
        go (Waits at same own lock fresh) = h.waits (sym same ∙ f) at x low (asked_is r WorkLocks x k).1
        go (Starts five same lock) = absurd (omega (arith, five, six))
        go (Resumes twelve same idle bytes unfinished lock next) = absurd (omega (arith, twelve, six))

    some_busy : (x : ℕ) → x < n → r.law.held x ≡ true → busy n r.law ≡ true
    some_busy x low k = (let some : any n r.law.held ≡ true = some_no n r.law.held x low k in rw some refl)

    all_healing : (x : ℕ) → x < n → r.law.healing x ≡ true
    all_healing x low = go (work_place n keeps r s b area e)
      where
        is_heal : (step : Step) → rank step ≡ 5 → step ≡ HealLocks
        is_heal HealLocks k = refl
        is_heal step k = absurd (omega (arith, k))

        go : WorkPlace n keeps r s b area → r.law.healing x ≡ true
        go (Waits at same own lock fresh) = (let six : rank r.step ≡ 6 = ap rank at in h.whole (omega (arith, six)) (omega (arith, six)) x low)
        go (Starts five same lock) = (let w = asked_is r HealLocks x (over_at n everywhere (asked_in r HealLocks) (starts_over s area five e) x low refl) in h.granted (is_heal r.step five) x low w.1)
        go (Resumes twelve same idle bytes unfinished lock next) = h.whole (omega (arith, twelve)) (omega (arith, twelve)) x low

    waiting_held : next_part r area ≡ Opening → (x : ℕ) → x < n → (some : Bool) → busy n r.law ≡ some → asked_in r WorkLocks x ≡ true → (if some then record r.law { second = weak.second_of r.law area } else weak.begun r.law area).held x ≡ true
    waiting_held f x low true k m = first_held f x low m
    waiting_held f x low false k m = absurd (true≢false (sym (some_busy x low (first_held f x low m)) ∙ k))

    granted_held : next_part r area ≡ Opening → (x : ℕ) → x < n → (some own : Bool) → busy n r.law ≡ some → is_area r.law.area area ≡ own → with (asked_in r WorkLocks) b x ≡ true
        → (if some && not own then record r.law { second = Some area; second_held = with r.law.second_held b } else (let k = if some then record r.law { second = weak.second_of r.law area } else weak.begun r.law area in record k { held = with k.held b })).held x ≡ true
    granted_held f x low true true k own m = elim (with_cases (asked_in r WorkLocks) b x m) [
      | inl here ↦ subst (λ y. with r.law.held b y ≡ true) (sym here) (with_self r.law.held b)
      | inr was ↦ with_more r.law.held b x (first_held f x low was)
    ]
    granted_held f x low true false k own m = elim own_or_idle [ inl mine ↦ absurd (true≢false (sym mine ∙ own)) | inr idle ↦ absurd (true≢false (sym k ∙ idle)) ]
    granted_held f x low false own k e m = elim (with_cases (asked_in r WorkLocks) b x m) [
      | inl here ↦ subst (λ y. with empty b y ≡ true) (sym here) (with_self empty b)
      | inr was ↦ absurd (true≢false (sym (some_busy x low (first_held f x low was)) ∙ k))
    ]

    work_lock : (told : Told) → is_gone told ≡ false → (next_part r area ≡ Opening → (x : ℕ) → x < n → (left_in_heal n r t b (Lock Work area) told).asked x ≡ true → (LawAfter (Lock Work area) told).held x ≡ true) → LockedAfter (Lock Work area) told
    work_lock told ok helds = record {
      granted = λ k. absurd (cc k);
      whole = λ k l x low. elim ((work_locked n r.law b area told).healing x (all_healing x low)) [ inl gone ↦ absurd (true≢false (sym gone.0 ∙ ok)) | inr still ↦ still ];
      waits = λ f k x low m. helds f x low m;
      under = λ f k. absurd (omega (arith, k));
      free = λ k. absurd (omega (arith, k));
    }

  unlock : (area : Area) → rank r.step ≤ 12 → 7 ≤ rank r.step → LockedAfter (Unlock Work area) Done
  unlock area up far = (
      let k = frees_work n r.law b area Done in
      record {
        granted = λ m. absurd (cc m);
        whole = λ m l x low. ap (λ (f : ℕ → Bool). f x) k.1 ∙ h.whole (omega (arith, far)) up x low;
        waits = λ f m. absurd (cc m);
        under = λ f m l. absurd (omega (arith, l));
        free = λ m. absurd (omega (arith, m));
      }
      )

  look_seen : (g : Gfid) (view : View) → rank r.step ≡ 7 → LockedAfter (Look g) (Seen view)
  look_seen g view at = (
      let k = sees r.law b g.0 view in
      record {
        granted = λ m. absurd (cc m);
        whole = λ m l x low. ap (λ (f : ℕ → Bool). f x) k.healing ∙ h.whole (omega (arith, at)) (omega (arith, at)) x low;
        waits = λ f m. absurd (cc m);
        under = λ f m l x low. ap (λ (q : ℕ → Bool). q x) k.held ∙ h.under f (omega (arith, at)) (omega (arith, at)) x low;
        free = λ m. absurd (omega (arith, m));
      }
      )

  pub locked_asked : (request : Request) (told : Told) (s : ℕ) → may_heal n keeps r s b request ≡ true → breaks r request told ≡ false → Hears p older b request told → LockedAfter request told
  locked_asked (Lock Heal area) Granted s e un k = heal_lock area (heal_lock_step n keeps r s b area e)
  locked_asked (Lock Heal area) (Held owner) s e un k = absurd (true≢false un)
  locked_asked (Lock Heal area) told s e un k = absurd k
  locked_asked (Lock Work area) Granted s e un k = work_lock s area e Granted refl (λ f x low m. granted_held s area e f x low (busy n r.law) (is_area r.law.area area) refl refl m)
  locked_asked (Lock Work area) (Held owner) s e un k = work_lock s area e (Held owner) refl (λ f x low m. waiting_held s area e f x low (busy n r.law) refl m)
  locked_asked (Lock Work area) told s e un k = absurd k
  locked_asked (Unlock Work area) Done s e un k = unlock area (turn_low n keeps r s Unlocks b (unlock_turn n keeps r s b area e)) (settles_far n keeps r s (unlock_over n keeps r s b area e))
  locked_asked (Unlock Work area) told s e un k = absurd k
  locked_asked (Unlock Heal area) Done s e un k = record { granted = λ m. absurd (cc m); whole = λ m l. absurd (omega (arith, l)); waits = λ f m. absurd (cc m); under = λ f m l. absurd (omega (arith, l)); free = λ m. absurd (omega (arith, m)) }
  locked_asked (Unlock Heal area) told s e un k = absurd k
  locked_asked (Look g) (Seen view) s e un k = look_seen g view (look_step n keeps r s b g.0 e)
  locked_asked (Look g) NoObject s e un k = (let at = look_step n keeps r s b g.0 e in plain Looks (left_in_heal n r t b (Look g) NoObject).asked (omega (arith, at)) (omega (arith, at)) (omega arith))
  locked_asked (Look g) told s e un k = absurd k
  locked_asked (ReadBytes g at len) Given s e un k = (let up = turn_low n keeps r s Reads b (bytes_turn n keeps r s b g at len e) in plain Reads (with (asked_in r Reads) b) (onward_far n keeps r s g.0 Bytes (bytes_onward n keeps r s b g at len e)) (omega (arith, up)) (omega arith))
  locked_asked (ReadBytes g at len) NoObject s e un k = (let up = turn_low n keeps r s Reads b (bytes_turn n keeps r s b g at len e) in plain Reads (asked_in r Reads) (onward_far n keeps r s g.0 Bytes (bytes_onward n keeps r s b g at len e)) (omega (arith, up)) (omega arith))
  locked_asked (ReadBytes g at len) told s e un k = absurd k
  locked_asked (ReadAttrs g) Given s e un k = (let up = turn_low n keeps r s Reads b (attrs_turn n keeps r s b g e) in plain Reads (with (asked_in r Reads) b) (onward_far n keeps r s g.0 Attrs (attrs_onward n keeps r s b g e)) (omega (arith, up)) (omega arith))
  locked_asked (ReadAttrs g) NoObject s e un k = (let up = turn_low n keeps r s Reads b (attrs_turn n keeps r s b g e) in plain Reads (asked_in r Reads) (onward_far n keeps r s g.0 Attrs (attrs_onward n keeps r s b g e)) (omega (arith, up)) (omega arith))
  locked_asked (ReadAttrs g) told s e un k = absurd k
  locked_asked (List g) Given s e un k = (let up = turn_low n keeps r s Reads b (list_turn n keeps r s b g e) in plain Reads (with (asked_in r Reads) b) (onward_far n keeps r s g.0 Names (list_onward n keeps r s b g e)) (omega (arith, up)) (omega arith))
  locked_asked (List g) NoObject s e un k = (let up = turn_low n keeps r s Reads b (list_turn n keeps r s b g e) in plain Reads (asked_in r Reads) (onward_far n keeps r s g.0 Names (list_onward n keeps r s b g e)) (omega (arith, up)) (omega arith))
  locked_asked (List g) told s e un k = absurd k
  locked_asked (Pre g kind) Done s e un k = (let up = turn_low n keeps r s HealPres b (pre_turn n keeps r s b g.0 kind e) in plain HealPres (with (asked_in r HealPres) b) (onward_far n keeps r s g.0 kind (pre_onward n keeps r s b g.0 kind e)) (omega (arith, up)) (omega arith))
  locked_asked (Pre g kind) NoObject s e un k = (let up = turn_low n keeps r s HealPres b (pre_turn n keeps r s b g.0 kind e) in plain HealPres (asked_in r HealPres) (onward_far n keeps r s g.0 kind (pre_onward n keeps r s b g.0 kind e)) (omega (arith, up)) (omega arith))
  locked_asked (Pre g kind) told s e un k = absurd k
  locked_asked (Mend repair) Done s e un k = (let up = turn_low n keeps r s Mends b (mend_turn n keeps r s b repair e) in plain Mends (with (asked_in r Mends) b) (mend_far n keeps r s repair (mend_test n keeps r s b repair e)) (omega (arith, up)) (omega arith))
  locked_asked (Mend repair) NoObject s e un k = (let up = turn_low n keeps r s Mends b (mend_turn n keeps r s b repair e) in plain Mends (asked_in r Mends) (mend_far n keeps r s repair (mend_test n keeps r s b repair e)) (omega (arith, up)) (omega arith))
  locked_asked (Mend repair) told s e un k = absurd k
  locked_asked (Settle g kind less) Done s e un k = (let up = turn_low n keeps r s Settles b (settle_turn n keeps r s b g.0 kind less e) in plain Settles (with (asked_in r Settles) b) (onward_far n keeps r s g.0 kind (settle_onward n keeps r s b g.0 kind less e)) (omega (arith, up)) (omega arith))
  locked_asked (Settle g kind less) NoObject s e un k = (let up = turn_low n keeps r s Settles b (settle_turn n keeps r s b g.0 kind less e) in plain Settles (asked_in r Settles) (onward_far n keeps r s g.0 kind (settle_onward n keeps r s b g.0 kind less e)) (omega (arith, up)) (omega arith))
  locked_asked (Settle g kind less) told s e un k = absurd k
  locked_asked (Apply q) told s e un k = absurd (true≢false (sym e))
  locked_asked (Post q g kind missed) told s e un k = absurd (true≢false (sym e))
  locked_asked (ReadName g name) told s e un k = absurd (true≢false (sym e))
  locked_asked (ReadAttr g key) told s e un k = absurd (true≢false (sym e))
  locked_asked Index told s e un k = absurd (true≢false (sym e))

-- a HealBegin line
pub locked_begun : (n : ℕ) (r : Exact) (g : ℕ) (kind : Kind) (asks : ℕ → Bool) → MayHealBegin n r g kind → LockedIn n r r.law → Locked n Looks r.part asks r.law.healing r.law.held (busy n r.law)
locked_begun n r g kind asks may h = (
    let at : rank r.step ≡ 6 = ap rank may.step in
    record {
      granted = λ m. absurd (cc m);
      whole = λ k l. h.whole (omega (arith, at)) (omega (arith, at));
      waits = λ f m. absurd (cc m);
      under = λ f k l x low. h.waits f may.step x low (over_at n r.law.healing r.asked (subst (λ (q : HealPart). over n (locks_at r q) r.asked ≡ true) f may.over) x low (h.whole (omega (arith, at)) (omega (arith, at)) x low));
      free = λ m. absurd (omega (arith, m));
    }
    )
