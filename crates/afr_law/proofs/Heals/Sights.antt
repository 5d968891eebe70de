-- Each line of a heal keeps what its register says of its views.
use Rattle.afr_base.specs.Majority.{is_most}
use Rattle.afr_base.specs.declared.ids.Kind.{Kind}
use Rattle.afr_base.specs.declared.ids.Kind.TheVariants.{Attrs, Bytes, Names}
use Rattle.afr_law.proofs.Discipline.AskFields.{WorkLocked, frees_heal, frees_work, heal_locked, work_locked}
use Rattle.afr_model_moves.specs.Discipline.{MovesExactly, note, present}
use Rattle.afr_model_moves.specs.Heal.{MayHealBegin}
use Rattle.afr_model_moves.specs.Note.{breaks, fails, left_in_heal, next_part, put}
use Rattle.afr_model_moves.specs.Register.{Exact, Finish, HealLocks, HealPart, HealPres, HealUnlocks, Looks, Mends, Opening, Piece, Reads, Settles, Step, Unlocks, WorkLocks, asked_in, holder, is_opening, rank, untouched, whole_area}
use Rattle.afr_model_moves.specs.Steps.{goes_on, looks_at, looks_over, may_heal, onward}
use Rattle.afr_law.proofs.Discipline.Firsts.{FirstsOf, firsts_now}
use Rattle.afr_law.proofs.Heals.Along.{healing_now, opened_by}
use Rattle.afr_law.proofs.Heals.Answers.{Honestly}
use Rattle.afr_law.proofs.Heals.Areas.{opening_or}
use Rattle.afr_law.proofs.Heals.Holds.{HoldsIn, fails_gone, holds_now, kept_law}
use Rattle.afr_law.proofs.Heals.Conditions.{Resumes, Starts, Waits, WorkPlace, asked_now, attrs_onward, attrs_turn, bytes_onward, bytes_turn, heal_lock_area, heal_lock_step, heal_unlock_goes, heal_unlock_over, list_onward, list_turn, look_object, look_step, look_turn, looks_is, mend_goes, mend_pres, mend_test, mend_turn, mends_pres, onward_goes, onward_looks, pre_onward, pre_turn, pres_looks, settle_onward, settle_turn, settles_mends, turn_fresh, unlock_goes, unlock_over, work_place}
use Rattle.afr_law.proofs.Heals.Views.{SeenAt, Sights, SightsIn, after_looks, here_or, later_not, later_seen, none_view, opening_not, opening_seen, put_other, seen_next}
use Rattle.afr_law.proofs.Discipline.Inner.{Inner, turn_in, turn_low}
use Rattle.afr_model_moves.specs.Rules.{fresh, Register, heal_area, is_none}
use Rattle.afr_model_moves.specs.Lines.{ask_by, heal_begin_by, look_at}
use Rattle.afr_model_moves.specs.Past.{Log, holds, is_gone}
use Rattle.afr_model_moves.specs.Sets.{with}
use Rattle.afr_law.proofs.Discipline.StagesAlong.{StageOf, stage_now}
use Rattle.afr_model_moves.proofs.AreaLemmas.{same_area_is}
use Rattle.afr_law.proofs.Discipline.Transactions.{held_view}
use Rattle.afr_lines.specs.declared.answer.Told.{Told}
use Rattle.afr_lines.specs.declared.answer.Told.TheVariants.{Done, Failed, Given, Granted, Held, NoObject, NotConnected, Seen}
use Rattle.afr_lines.specs.declared.request.Area.{Area}
use Rattle.afr_lines.specs.declared.request.Request.{Request}
use Rattle.afr_lines.specs.declared.request.Request.TheVariants.{Apply, Index, List, Lock, Look, Mend, Post, Pre, ReadAttr, ReadAttrs, ReadBytes, ReadName, Settle, Unlock}
use Rattle.afr_lines.specs.Overlap.{same_area}
use Rattle.afr_object.specs.declared.entry.View.{View}
use Rattle.afr_lines.specs.declared.lock.Domain.TheVariants.{Heal, Work}
use Rattle.std.proofs.Common.{Bool, ap, arith, false, inl, inr, not, refl, subst, suc, sym, true, true≢false, ℕ, ◌&&◌, ◌<◌, ◌∙◌, ◌≡◌, ◌≤◌, ◌⊎◌}
use Rattle.std.specs.Prelude.{None, Option, Some, if◌then◌else◌, ◌==◌}
use Rattle.afr_model_moves.specs.Rules as weak
use Rattle.std.proofs.lemmas.Bool.{eqb-true, eq-eqb, and_from}
use Rattle.afr_model_moves.proofs.Tests.{with_false, some_number, with_cases, next_not_opening}
use Rattle.afr_base.specs.Bricks.{and_right}

six_true : (u v w x y z : Bool) → u ≡ true → v ≡ true → w ≡ true → x ≡ true → y ≡ true → z ≡ true → (u && v && w && x && y && z) ≡ true
six_true u v w x y z a b c d e f = grind arith

pub not_opening : (p : HealPart) → (p ≡ Opening → ⊥) → is_opening p ≡ false
not_opening Opening k = absurd (k refl)
not_opening Piece k = refl
not_opening Finish k = refl

module _ (n : ℕ) (keeps : ℕ → Kind → Bool) (log : Log) (honest : Honestly log) (t a b : ℕ) (r : Exact) (below : b < n) (inside : r.law.heal ≡ true)
    (s : StageOf r) (f : FirstsOf r) (i : Inner n r.step r.part r.asked r.first_reached r.law.number r.law.held r.law.seen r.law.closed) (k : HoldsIn n r r.law) (h : SightsIn n log t a r r.law) where
  abbrev pub SightsAfter : Request → Told → Type 0
  SightsAfter request told = SightsIn n log (suc t) a (left_in_heal n r t b request told) (weak.dropping (is_gone told) b (weak.note_ask n r.law b request told))

  -- what the register of the law makes of a look that showed a view
  module _ (g source : ℕ) (may : may_heal n keeps r source b (look_at g) ≡ true) where
    seven : rank r.step ≡ 7
    seven = look_step n keeps r source b g may

    looks : looks_at r r.part b ≡ true
    looks = turn_in n keeps r source Looks b (look_turn n keeps r source b g may)

    is_locked : (r.law.seen b ≡ true) × (r.law.healing b ≡ true)
    is_locked = go r.part looks
      where
        reached : r.first_reached b ≡ true → (r.law.seen b ≡ true) × (r.law.healing b ≡ true)
        reached e = (i.under (omega (arith, seven)) (omega (arith, seven)) b below e, k.reached (omega (arith, seven)) b below e)

        go : (p : HealPart) → looks_at r p b ≡ true → (r.law.seen b ≡ true) × (r.law.healing b ≡ true)
        go Opening e = (i.within (omega (arith, seven)) (omega (arith, seven)) b e, k.within (omega (arith, seven)) b below e)
        go Piece e = reached e
        go Finish e = reached e

    unsettled : not (r.law.settled b) ≡ true
    unsettled = go (r.law.settled b) refl
      where
        go : (x : Bool) → r.law.settled b ≡ x → not x ≡ true
        go true e = (let late : 11 ≤ rank r.step = (k.settled b e).1 in absurd (omega (arith, late, seven)))
        go false e = refl

    sure : (not (r.law.number == 0) && r.law.seen b && not (r.law.closed b) && (g == r.law.object) && r.law.healing b && not (r.law.settled b)) ≡ true
    sure = six_true _ _ _ _ _ _ (some_number r.law.number (i.numbers (omega (arith, seven)))) is_locked.0 (ap not (i.open_still (omega (arith, seven)) (omega (arith, seven)) b)) (look_object n keeps r source b g may) is_locked.1 unsettled

    pub views_law : (view : View) → weak.looking r.law b g view ≡ record r.law { view = put r.law.view b (Some view); first = if (r.law.number == r.law.start) && is_none (r.law.first b) then put r.law.first b (Some view) else r.law.first }
    views_law view =
        ap (λ (heal : Bool). if heal then weak.viewed r.law b g view else weak.looked r.law b) inside
        ∙ ap (λ (yes : Bool). if yes then record r.law { view = put r.law.view b (Some view); first = if (r.law.number == r.law.start) && is_none (r.law.first b) then put r.law.first b (Some view) else r.law.first } else r.law) sure

    at : r.step ≡ Looks
    at = looks_is r.step seven

    object_is : g ≡ r.law.object
    object_is = eqb-true g r.law.object (look_object n keeps r source b g may)

    unasked : r.asked b ≡ false
    unasked = ap (λ (c : ℕ → Bool). c b) (sym (asked_now r Looks at)) ∙ turn_fresh n keeps r source Looks b (look_turn n keeps r source b g may)

    line_seen : (view : View) (took : Bool) → log t ≡ Some (ask_by a b (look_at g) (Seen view) took) → log t ≡ Some (ask_by a b (look_at r.law.object) (Seen view) true)
    line_seen view took is = is ∙ (λ j. Some (ask_by a b (look_at (object_is j)) (Seen view) (honest.shown t a b g view took is j)))

    abbrev pub saw_first : View → ℕ → Option View
    saw_first view = if (r.law.number == r.law.start) && is_none (r.law.first b) then put r.law.first b (Some view) else r.law.first

    abbrev pub ShownAs : View → (ℕ → Bool) → (ℕ → Option View) → (ℕ → Option View) → Type 0
    ShownAs view asks first_views first = Sights n log (suc t) a Looks r.part asks r.law.object r.law.number r.law.start (put r.views b (Some view)) first_views (put r.law.view b (Some view)) first

    kept : (view : View) (x : ℕ) (v : View) → r.law.first x ≡ Some v → saw_first view x ≡ Some v
    kept view x v e = go ((r.law.number == r.law.start) && is_none (r.law.first b)) refl
      where
        go : (c : Bool) → ((r.law.number == r.law.start) && is_none (r.law.first b)) ≡ c → (if c then put r.law.first b (Some view) else r.law.first) x ≡ Some v
        go false l = e
        go true l = elim (here_or b x) [
          | inl here ↦ absurd (true≢false (sym (and_right (r.law.number == r.law.start) (is_none (r.law.first b)) l) ∙ ap is_none (ap r.law.first (sym here) ∙ e)))
          | inr other ↦ put_other r.law.first b x (Some view) other ∙ e
        ]

    shown_as : (view : View) (took : Bool) → log t ≡ Some (ask_by a b (look_at g) (Seen view) took) → (r.part ≡ Opening) ⊎ (r.part ≡ Opening → ⊥)
        → ShownAs view (with (asked_in r Looks) b) (if is_opening r.part then put r.first_views b (Some view) else r.first_views) (saw_first view)
    shown_as view took is (inl e) = (
        let fresh : ((r.law.number == r.law.start) && is_none (r.law.first b)) ≡ true = and_from _ _ (eq-eqb r.law.number r.law.start (h.started e (omega (arith, seven)))) (ap is_none (h.untaken e at b unasked)) in
        subst (λ (x : ℕ → Bool). ShownAs view (with x b) (if is_opening r.part then put r.first_views b (Some view) else r.first_views) (saw_first view)) (sym (asked_now r Looks at))
        (subst (λ (p : HealPart). ShownAs view (with r.asked b) (if is_opening p then put r.first_views b (Some view) else r.first_views) (saw_first view)) (sym e)
        (subst (λ (x : Bool). ShownAs view (with r.asked b) (put r.first_views b (Some view)) (if x then put r.law.first b (Some view) else r.law.first)) (sym fresh) (opening_seen n keeps log t a b r at h e view (line_seen view took is))))
        )
    shown_as view took is (inr later) =
        subst (λ (x : ℕ → Bool). ShownAs view (with x b) (if is_opening r.part then put r.first_views b (Some view) else r.first_views) (saw_first view)) (sym (asked_now r Looks at))
        (subst (λ (c : Bool). ShownAs view (with r.asked b) (if c then put r.first_views b (Some view) else r.first_views) (saw_first view)) (sym (not_opening r.part later)) (later_seen n keeps log t a b r at h later view (saw_first view) (kept view)))

    seen : (view : View) (took : Bool) → log t ≡ Some (ask_by a b (look_at g) (Seen view) took) → SightsAfter (look_at g) (Seen view)
    seen view took is = subst (λ (w : Register). Sights n log (suc t) a Looks r.part (with (asked_in r Looks) b) w.object w.number w.start (put r.views b (Some view)) (if is_opening r.part then put r.first_views b (Some view) else r.first_views) w.view w.first)
        (sym (views_law view)) (shown_as view took is (opening_or r.part))

    abbrev pub NotShown : (ℕ → Bool) → (ℕ → Option View) → Type 0
    NotShown asks first_views = Sights n log (suc t) a Looks r.part asks r.law.object r.law.number r.law.start (put r.views b None) first_views r.law.view r.law.first

    -- a look that showed none
    unseen : (told : Told) (took : Bool) (asks : ℕ → Bool) → log t ≡ Some (ask_by a b (look_at g) told took) → breaks r (look_at g) told ≡ false → ((view : View) → told ≡ Seen view → ⊥)
        → ((x : ℕ) → asks x ≡ false → r.asked x ≡ false) → ((x : ℕ) → (x ≡ b → ⊥) → asks x ≡ true → r.asked x ≡ true)
        → Sights n log (suc t) a Looks r.part asks r.law.object r.law.number r.law.start (put r.views b None) (if is_opening r.part then put r.first_views b None else r.first_views) r.law.view r.law.first
    unseen told took asks is un none more less = pick (opening_or r.part)
      where
        gone : (r.part ≡ Opening → ⊥) → holder r.first_views b ≡ true → ⊥
        gone later holds = (
            let v = held_view r.first_views b holds in
            let o = h.origin b v.0 v.1 in
            let ok : fails told ≡ false = half (fails told) (not (is_opening r.part)) un (ap not (not_opening r.part later)) in
            let again = honest.again o.l t a b r.law.object o.view told took o.past o.is (is ∙ (λ j. Some (ask_by a b (look_at (object_is j)) told took))) ok in
            none again.0 again.1
            )
          where
            half : (x y : Bool) → (x && y) ≡ false → y ≡ true → x ≡ false
            half x y p q = grind arith

        pick : (r.part ≡ Opening) ⊎ (r.part ≡ Opening → ⊥) → NotShown asks (if is_opening r.part then put r.first_views b None else r.first_views)
        pick (inl e) = subst (λ (p : HealPart). NotShown asks (if is_opening p then put r.first_views b None else r.first_views)) (sym e) (opening_not n keeps log t a b r at h e asks more)
        pick (inr later) = subst (λ (c : Bool). NotShown asks (if c then put r.first_views b None else r.first_views)) (sym (not_opening r.part later)) (later_not n keeps log t a b r at h later asks less (gone later))

    -- the bricks that were asked in this step
    grown : (x : ℕ) → with (asked_in r Looks) b x ≡ false → r.asked x ≡ false
    grown x e = ap (λ (c : ℕ → Bool). c x) (sym (asked_now r Looks at)) ∙ (with_false (asked_in r Looks) b x e).1

    other : (x : ℕ) → (x ≡ b → ⊥) → with (asked_in r Looks) b x ≡ true → r.asked x ≡ true
    other x ne e = elim (with_cases (asked_in r Looks) b x e) [ inl here ↦ absurd (ne here) | inr was ↦ ap (λ (c : ℕ → Bool). c x) (sym (asked_now r Looks at)) ∙ was ]

    stayed : (x : ℕ) → asked_in r Looks x ≡ false → r.asked x ≡ false
    stayed x e = ap (λ (c : ℕ → Bool). c x) (sym (asked_now r Looks at)) ∙ e

    held_back : (x : ℕ) → (x ≡ b → ⊥) → asked_in r Looks x ≡ true → r.asked x ≡ true
    held_back x ne e = ap (λ (c : ℕ → Bool). c x) (sym (asked_now r Looks at)) ∙ e

    pub look_sights : (told : Told) (took : Bool) → log t ≡ Some (ask_by a b (look_at g) told took) → breaks r (look_at g) told ≡ false → SightsAfter (look_at g) told
    look_sights (Seen view) took is un = seen view took is
    look_sights NoObject took is un = unseen NoObject took (with (asked_in r Looks) b) is un (λ v e. cc e) grown other
    look_sights NotConnected took is un = unseen NotConnected took (with (asked_in r Looks) b) is un (λ v e. cc e) grown other
    look_sights Failed took is un = unseen Failed took (with (asked_in r Looks) b) is un (λ v e. cc e) grown other
    look_sights Granted took is un = unseen Granted took (asked_in r Looks) is un (λ v e. cc e) stayed held_back
    look_sights (Held owner) took is un = unseen (Held owner) took (asked_in r Looks) is un (λ v e. cc e) stayed held_back
    look_sights Done took is un = unseen Done took (asked_in r Looks) is un (λ v e. cc e) stayed held_back
    look_sights Given took is un = unseen Given took (asked_in r Looks) is un (λ v e. cc e) stayed held_back

  -- a step before the looks
  before_looks : (next : Step) (part : HealPart) (asks : ℕ → Bool) (w : Register) → rank next ≤ 6 → w.object ≡ r.law.object → w.first ≡ r.law.first → (part ≡ Opening → (r.part ≡ Opening) × (rank r.step ≤ 6))
      → ((part ≡ Opening → ⊥) → is_most n (holder r.first_views) ≡ true) → Sights n log (suc t) a next part asks w.object w.number w.start r.views r.first_views w.view w.first
  before_looks next part asks w low object first early most = record {
    started = λ e far. absurd (omega (arith, far, low));
    none = λ e m x. ap (λ (c : ℕ → Option View). c x) first ∙ h.none (early e).0 (early e).1 x;
    untaken = λ e at. absurd (no_looks (ap rank at));
    first = λ x v e. ap (λ (c : ℕ → Option View). c x) first ∙ h.first x v e;
    view = λ far. absurd (omega (arith, far, low));
    same = λ e far. absurd (omega (arith, far, low));
    origin = λ x v e. subst (λ g. SeenAt log (suc t) a x g) (sym object) (seen_next log t a x r.law.object (h.origin x v e));
    again = λ later at. absurd (no_looks (ap rank at));
    still = λ later far. absurd (omega (arith, far, low));
    enough = λ m. elim m [ inl later ↦ most later | inr far ↦ absurd (omega (arith, far, low)) ];
  }
    where
      no_looks : rank next ≡ 7 → ⊥
      no_looks e = omega (arith, e, low)

  work_sights : (area : Area) (told : Told) (source : ℕ) → may_heal n keeps r source b (Lock Work area) ≡ true → SightsAfter (Lock Work area) told
  work_sights area told source e = go (work_place n keeps r source b area e)
    where
      w : WorkLocked n r.law (weak.dropping (is_gone told) b (weak.note_ask n r.law b (Lock Work area) told)) b area (is_gone told)
      w = work_locked n r.law b area told

      stays : rank r.step ≤ 6 → next_part r area ≡ r.part → SightsAfter (Lock Work area) told
      stays low same = before_looks WorkLocks (next_part r area) (left_in_heal n r t b (Lock Work area) told).asked (weak.dropping (is_gone told) b (weak.note_ask n r.law b (Lock Work area) told)) (omega arith) w.object w.rest.first
          (λ k. (sym same ∙ k, low)) (λ later. h.enough (inl (λ k. later (same ∙ k))))

      go : WorkPlace n keeps r source b area → SightsAfter (Lock Work area) told
      go (Waits at same own lock fresh) = (let six : rank r.step ≡ 6 = ap rank at in stays (omega (arith, six)) same)
      go (Starts five same lock) = stays (omega (arith, five)) same
      go (Resumes twelve same idle bytes unfinished lock chosen) = before_looks WorkLocks (next_part r area) (left_in_heal n r t b (Lock Work area) told).asked (weak.dropping (is_gone told) b (weak.note_ask n r.law b (Lock Work area) told)) (omega arith) w.object w.rest.first
          (λ k. absurd (next_not_opening (same_area (whole_area r.law.object Bytes) area) (sym same ∙ k))) (λ k. h.enough (inr (omega (arith, twelve))))

  lock_sights : (area : Area) (told : Told) (source : ℕ) → may_heal n keeps r source b (Lock Heal area) ≡ true → SightsAfter (Lock Heal area) told
  lock_sights area told source e = (
      let five : rank r.step ≡ 5 = heal_lock_step n keeps r source b area e in
      let first = (s.early inside (omega (arith, five))).0 in
      let w = heal_locked n r.law b area told in
      let object : weak.area_object area ≡ r.law.object = ap weak.area_object (sym (same_area_is (heal_area r.law.object) area (heal_lock_area n keeps r source b area e))) in
      before_looks HealLocks r.part (with (asked_in r HealLocks) b) (weak.dropping (is_gone told) b (weak.note_ask n r.law b (Lock Heal area) told)) (omega arith) (w.object ∙ object) w.rest.first (λ k. (first, omega (arith, five))) (λ later. absurd (later first))
      )

  reading_sights : (source : ℕ) (asks : ℕ → Bool) (told : Told) → fails told ≡ false → goes_on n keeps r source ≡ true → looks_over n keeps r source ≡ true → rank r.step ≤ 8
      → Sights n log (suc t) a Reads r.part asks (weak.dropping (is_gone told) b r.law).object (weak.dropping (is_gone told) b r.law).number (weak.dropping (is_gone told) b r.law).start r.views r.first_views (weak.dropping (is_gone told) b r.law).view (weak.dropping (is_gone told) b r.law).first
  reading_sights source asks told ok goes looks low = subst (λ (w : Register). Sights n log (suc t) a Reads r.part asks w.object w.number w.start r.views r.first_views w.view w.first) (sym (kept_law (is_gone told) b r.law (fails_gone told ok)))
      (after_looks n keeps log t a r f h source Reads asks r.law (omega arith) goes looks (λ k. omega (arith, low)) refl refl refl refl refl)

  -- changing requests
  changes_sights : (source : ℕ) (next : Step) (asks : ℕ → Bool) (w : Register) → 8 ≤ rank next → rank r.step ≤ 11 → goes_on n keeps r source ≡ true → looks_over n keeps r source ≡ true
      → w.object ≡ r.law.object → w.number ≡ r.law.number → w.start ≡ r.law.start → w.view ≡ r.law.view → w.first ≡ r.law.first
      → Sights n log (suc t) a next r.part asks w.object w.number w.start r.views r.first_views w.view w.first
  changes_sights source next asks w late low goes looks = after_looks n keeps log t a r f h source next asks w late goes looks (λ k. low)

  pub sights_asked : (request : Request) (told : Told) (took : Bool) (source : ℕ) → log t ≡ Some (ask_by a b request told took) → may_heal n keeps r source b request ≡ true → breaks r request told ≡ false → SightsAfter request told
  sights_asked (Lock Heal area) told took source is e un = lock_sights area told source e
  sights_asked (Lock Work area) told took source is e un = work_sights area told source e
  sights_asked (Look g) told took source is e un = look_sights g.0 source e told took is un
  sights_asked (ReadBytes g at len) told took source is e un = (let o = bytes_onward n keeps r source b g at len e in reading_sights source (left_in_heal n r t b (ReadBytes g at len) told).asked told un (onward_goes n keeps r source g.0 Bytes o) (onward_looks n keeps r source g.0 Bytes o) (turn_low n keeps r source Reads b (bytes_turn n keeps r source b g at len e)))
  sights_asked (ReadAttrs g) told took source is e un = (let o = attrs_onward n keeps r source b g e in reading_sights source (left_in_heal n r t b (ReadAttrs g) told).asked told un (onward_goes n keeps r source g.0 Attrs o) (onward_looks n keeps r source g.0 Attrs o) (turn_low n keeps r source Reads b (attrs_turn n keeps r source b g e)))
  sights_asked (List g) told took source is e un = (let o = list_onward n keeps r source b g e in reading_sights source (left_in_heal n r t b (List g) told).asked told un (onward_goes n keeps r source g.0 Names o) (onward_looks n keeps r source g.0 Names o) (turn_low n keeps r source Reads b (list_turn n keeps r source b g e)))
  sights_asked (Pre g kind) told took source is e un = pre told un
    where
      o : onward n keeps r source g.0 kind ≡ true
      o = pre_onward n keeps r source b g.0 kind e

      low : rank r.step ≤ 11
      low = (let k : rank r.step ≤ 9 = turn_low n keeps r source HealPres b (pre_turn n keeps r source b g.0 kind e) in omega (arith, k))

      pre : (d : Told) → fails d ≡ false → SightsAfter (Pre g kind) d
      pre Done k = changes_sights source HealPres (with (asked_in r HealPres) b) (record r.law { pre = with r.law.pre b; raised = with r.law.raised b }) (omega arith) low (onward_goes n keeps r source g.0 kind o) (onward_looks n keeps r source g.0 kind o) refl refl refl refl refl
      pre NotConnected k = absurd (true≢false k)
      pre Failed k = absurd (true≢false k)
      pre _ k = changes_sights source HealPres (asked_in r HealPres) r.law (omega arith) low (onward_goes n keeps r source g.0 kind o) (onward_looks n keeps r source g.0 kind o) refl refl refl refl refl
  sights_asked (Mend repair) told took source is e un = mend told un
    where
      low : rank r.step ≤ 11
      low = (let k : rank r.step ≤ 10 = turn_low n keeps r source Mends b (mend_turn n keeps r source b repair e) in omega (arith, k))

      goes : goes_on n keeps r source ≡ true
      goes = mend_goes n keeps r source repair (mend_test n keeps r source b repair e)

      looks : looks_over n keeps r source ≡ true
      looks = pres_looks n keeps r source (mend_pres n keeps r source b repair e)

      mend : (d : Told) → fails d ≡ false → SightsAfter (Mend repair) d
      mend Done k = changes_sights source Mends (with (asked_in r Mends) b) (record r.law { mended = weak.mend_cells r.law.mended r.law.number b repair }) (omega arith) low goes looks refl refl refl refl refl
      mend NotConnected k = absurd (true≢false k)
      mend Failed k = absurd (true≢false k)
      mend _ k = changes_sights source Mends (asked_in r Mends) r.law (omega arith) low goes looks refl refl refl refl refl
  sights_asked (Settle g kind less) told took source is e un = settle told un
    where
      low : rank r.step ≤ 11
      low = turn_low n keeps r source Settles b (settle_turn n keeps r source b g.0 kind less e)

      o : onward n keeps r source g.0 kind ≡ true
      o = settle_onward n keeps r source b g.0 kind less e

      settle : (d : Told) → fails d ≡ false → SightsAfter (Settle g kind less) d
      settle Done k = changes_sights source Settles (with (asked_in r Settles) b) (record r.law { settled = with r.law.settled b }) (omega arith) low (onward_goes n keeps r source g.0 kind o) (onward_looks n keeps r source g.0 kind o) refl refl refl refl refl
      settle NotConnected k = absurd (true≢false k)
      settle Failed k = absurd (true≢false k)
      settle _ k = changes_sights source Settles (asked_in r Settles) r.law (omega arith) low (onward_goes n keeps r source g.0 kind o) (onward_looks n keeps r source g.0 kind o) refl refl refl refl refl
  sights_asked (Unlock Work area) told took source is e un = (
      let k = (frees_work n r.law b area told).0 in
      let w = weak.note_ask n r.law b (Unlock Work area) told in
      let l = left_in_heal n r t b (Unlock Work area) told in
      subst (λ (w : Register). Sights n log (suc t) a Unlocks r.part l.asked w.object w.number w.start r.views r.first_views w.view w.first) (sym (kept_law (is_gone told) b w un))
      (after_looks n keeps log t a r f h source Unlocks l.asked w (omega arith) (unlock_goes n keeps r source b area e) (pres_looks n keeps r source (mends_pres n keeps r source (settles_mends n keeps r source (unlock_over n keeps r source b area e)))) (λ m. absurd (omega (arith, m)))
      k.object k.number k.rest.start k.view k.rest.first)
      )
  sights_asked (Unlock Heal area) told took source is e un = (
      let k = frees_heal n r.law b area told in
      let w = weak.note_ask n r.law b (Unlock Heal area) told in
      let l = left_in_heal n r t b (Unlock Heal area) told in
      subst (λ (w : Register). Sights n log (suc t) a HealUnlocks r.part l.asked w.object w.number w.start r.views r.first_views w.view w.first) (sym (kept_law (is_gone told) b w un))
      (after_looks n keeps log t a r f h source HealUnlocks l.asked w (omega arith) (heal_unlock_goes n keeps r source b area e) (pres_looks n keeps r source (mends_pres n keeps r source (settles_mends n keeps r source (heal_unlock_over n keeps r source b area e)))) (λ m. absurd (omega (arith, m)))
      k.object k.number k.rest.start k.view k.rest.first)
      )
  sights_asked (Apply q) told took source is e un = absurd (true≢false (sym e))
  sights_asked (Post q g kind missed) told took source is e un = absurd (true≢false (sym e))
  sights_asked (ReadName g name) told took source is e un = absurd (true≢false (sym e))
  sights_asked (ReadAttr g key) told took source is e un = absurd (true≢false (sym e))
  sights_asked Index told took source is e un = absurd (true≢false (sym e))

module _ (n : ℕ) (keeps : ℕ → Kind → Bool) (log : Log) (honest : Honestly log) (moves : MovesExactly n keeps log) where
  first_lock : (t a b g : ℕ) (told : Told) (took : Bool) → SightsIn n log (suc t) a (opened_by n keeps t a b (heal_area g) told took) (opened_by n keeps t a b (heal_area g) told took).law
  first_lock t a b g told took = (
      let w = heal_locked n untouched.law b (heal_area g) told in
      record {
        started = λ e far. absurd (omega (arith, far));
        none = λ e low x. ap (λ (c : ℕ → Option View). c x) w.rest.first;
        untaken = λ e at. absurd (cc at);
        first = λ x v e. absurd (cc e);
        view = λ far. absurd (omega (arith, far));
        same = λ e far. absurd (omega (arith, far));
        origin = λ x v e. absurd (cc e);
        again = λ later. absurd (later refl);
        still = λ later. absurd (later refl);
        enough = λ m. elim m [ inl later ↦ absurd (later refl) | inr far ↦ absurd (omega (arith, far)) ];
      }
      )

  begins : (r : Exact) (t a g : ℕ) (kind : Kind) → StageOf r → FirstsOf r → MayHealBegin n r g kind → SightsIn n log t a r r.law → SightsIn n log (suc t) a (note n keeps r t (Some (heal_begin_by a g kind))) (note n keeps r t (Some (heal_begin_by a g kind))).law
  begins r t a g kind s f may h = record {
    started = λ e far. rw (s.opening may.inside may.step e) refl;
    none = λ e low. absurd (omega (arith, low));
    untaken = λ e at x m. h.none e six x;
    first = h.first;
    view = λ far low x v e. absurd (cc e);
    same = λ e far low x. none_view r.first_views x (unseen e x (holder r.first_views x) refl);
    origin = λ x v e. seen_next log t a x r.law.object (h.origin x v e);
    again = λ later at x m. absurd (cc m);
    still = λ later far. absurd (omega (arith, far));
    enough = λ m. elim m [ inl later ↦ h.enough (inl later) | inr far ↦ absurd (omega (arith, far)) ];
  }
    where
      six : rank r.step ≤ 6
      six = (let k : rank r.step ≡ 6 = ap rank may.step in omega (arith, k))

      unseen : r.part ≡ Opening → (x : ℕ) (is : Bool) → holder r.first_views x ≡ is → holder r.first_views x ≡ false
      unseen e x true m = absurd (true≢false (sym (f.reached x m) ∙ f.early may.inside six e x))
      unseen e x false m = m

  pub sights_now : (t a : ℕ) → (present n keeps log t a).law.heal ≡ true → (present n keeps log t a).broken ≡ false → SightsIn n log t a (present n keeps log t a) (present n keeps log t a).law
  sights_now = healing_now n keeps log moves (λ t a r k. SightsIn n log t a r r.law) (λ t a r k h. next t a r h) (λ t a b g told took is below. first_lock t a b g told took)
      (λ t a b request told took is below m un h. (let w = firsts_now n keeps log moves t a in sights_asked n keeps log honest t a b (present n keeps log t a) below m.inside (stage_now n keeps log moves t a) w.0 (w.1 m.inside m.whole) (holds_now n keeps log moves t a m.inside m.whole) h request told took m.source is m.allowed un))
      (λ t a g kind is may h. begins (present n keeps log t a) t a g kind (stage_now n keeps log moves t a) (firsts_now n keeps log moves t a).0 may h)
    where
      next : (t a : ℕ) (r : Exact) → SightsIn n log t a r r.law → SightsIn n log (suc t) a r r.law
      next t a r h = record {
        started = h.started;
        none = h.none;
        untaken = h.untaken;
        first = h.first;
        view = h.view;
        same = h.same;
        origin = λ x v e. seen_next log t a x r.law.object (h.origin x v e);
        again = h.again;
        still = h.still;
        enough = h.enough;
      }
