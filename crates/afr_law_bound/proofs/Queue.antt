-- A heal asks the Work locks of a part in rising order of bricks.
use Rattle.std.proofs.Common.{◌≡◌, ℕ, ◌<◌, ◌&&◌, ◌||◌, not, Bool, true, false, ◌⊎◌, inl, inr, refl, sym, ◌∙◌, subst, ap, arith, Option, Some, None, true≢false}
use Rattle.std.specs.Prelude.{if◌then◌else◌}
use Rattle.std.proofs.lemmas.Bool.{eqb-true, not-true}
use Rattle.afr_base.specs.Bricks.{and_left, and_right}
use Rattle.afr_base.specs.declared.ids.Kind.TheVariants.{Bytes}
use Rattle.afr_base.specs.declared.ids.Kind.{Kind}
use Rattle.afr_lines.specs.Overlap.{same_area}
use Rattle.afr_lines.specs.declared.answer.Told.TheVariants.{Granted}
use Rattle.afr_lines.specs.declared.answer.Told.{Told}
use Rattle.afr_lines.specs.declared.line.Line.TheVariants.{Ask, Begin, End, Event, HealBegin, HealEnd}
use Rattle.afr_lines.specs.declared.line.Line.{Line}
use Rattle.afr_lines.specs.declared.request.Area.{Area}
use Rattle.afr_lines.specs.declared.request.Request.TheVariants.{Apply, Index, List, Lock, Look, Mend, Post, Pre, ReadAttr, ReadAttrs, ReadBytes, ReadName, Settle, Unlock}
use Rattle.afr_lines.specs.declared.request.Request.{Request}
use Rattle.afr_model_moves.proofs.AreaLemmas.{is_area_is}
use Rattle.afr_model_moves.proofs.Tests.{three_cases, with_cases, with_more, with_self, without_in, work_locks}
use Rattle.afr_model_moves.specs.Discipline.{MayAskExactly, MayExactly, MovesExactly, note, present}
use Rattle.afr_model_moves.specs.Heal.{Gives, Goes, InHeal}
use Rattle.afr_model_moves.specs.Note.{breaks, fails, is_granted, left_by, left_in_heal, left_outside, next_part, stay}
use Rattle.afr_model_moves.specs.Past.{Log, is_gone, is_of}
use Rattle.afr_model_moves.specs.Register.{Applies, Exact, Finish, HealLocks, HealPart, HealPres, HealUnlocks, Looks, Mends, Open, Opening, Piece, Posts, Pres, Reads, Settles, Step, Unlocks, Untouched, WorkLocks, asked_in, is_finish, over, rank, same_step, whole_area}
use Rattle.afr_model_moves.specs.Rules as weak
use Rattle.afr_model_moves.specs.Rules.{Register, area_object, begun, busy, is_area, no_views}
use Rattle.afr_model_moves.specs.Sets.{empty, with}
use Rattle.afr_model_moves.specs.Steps.{after_unlocks, is_lowest, is_next, locks_at, may_heal, may_heal_work}
use Rattle.afr_model_moves.specs.Transaction.{Outside}
use Rattle.afr_lines.specs.declared.lock.Domain.TheVariants.{Heal, Work}
use Rattle.afr_law_bound.proofs.Begun.{IsBegun, begun_now, heal_locks}
use Rattle.afr_law_bound.proofs.Fields.{heal_kept}
use Rattle.afr_law_bound.proofs.Kept.{has_busy}
use Rattle.afr_law.proofs.Discipline.Asks.{heal_dropped}
use Rattle.afr_law.proofs.Discipline.Projection.{along_now}
use Rattle.afr_law.proofs.Heals.Conditions.{over_at}
use Rattle.afr_law_bound.specs.Waiting.{First, IsBelow, RisesTo, Second}

-- where a part of a heal locks: the Heal locks, or later the bricks of the first looks
abbrev pub set_at : HealPart → (ℕ → Bool) → (ℕ → Bool) → ℕ → Bool
set_at Opening healing reached = healing
set_at heal_part healing reached = reached

set_is : (r : Exact) (p : HealPart) → locks_at r p ≡ set_at p r.law.healing r.first_reached
set_is r Opening = refl
set_is r Piece = refl
set_is r Finish = refl

-- while Work locks are asked: who is held was asked, and of two bricks the lower one first
pub record Queue (n : ℕ) (step : Step) (heal_part : HealPart) (asked reached : ℕ → Bool) (w : Register) : Type 0 where
  pub inside : step ≡ WorkLocks → w.heal ≡ true
  pub held : step ≡ WorkLocks → (c : ℕ) → c < n → w.held c ≡ true → asked c ≡ true
  pub down : step ≡ WorkLocks → (c x : ℕ) → asked c ≡ true → x < c → set_at heal_part w.healing reached x ≡ true → asked x ≡ true

elsewhere : (n : ℕ) (step : Step) (heal_part : HealPart) (asked reached : ℕ → Bool) (w : Register) → (step ≡ WorkLocks → ⊥) → Queue n step heal_part asked reached w
elsewhere n step heal_part asked reached w nope = record { inside = λ e. absurd (nope e); held = λ e. absurd (nope e); down = λ e. absurd (nope e) }

-- ---- what a Work Lock line leaves
healing_locking : (n : ℕ) (w : Register) (area : Area) → (weak.locking n w area).healing ≡ w.healing
healing_locking n w area = go (busy n w)
  where
    go : (some : Bool) → (if some then record w { second = weak.second_of w area } else begun w area).healing ≡ w.healing
    go true = refl
    go false = refl

healing_locked : (n : ℕ) (w : Register) (b : ℕ) (area : Area) (told : Told) → (weak.note_ask n w b (Lock Work area) told).healing ≡ w.healing
healing_locked n w b area Granted = go (busy n w && not (is_area w.area area))
  where
    go : (other : Bool) → (if other then record w { second = Some area; second_held = with w.second_held b } else (let s = weak.locking n w area in record s { held = with s.held b })).healing ≡ w.healing
    go true = refl
    go false = healing_locking n w area
healing_locked n w b area _ = healing_locking n w area

held_locking : (n : ℕ) (w : Register) (area : Area) (c : ℕ) → (weak.locking n w area).held c ≡ true → w.held c ≡ true
held_locking n w area c h = go (busy n w) h
  where
    go : (some : Bool) → (if some then record w { second = weak.second_of w area } else begun w area).held c ≡ true → w.held c ≡ true
    go true k = k
    go false k = absurd (true≢false (sym k))

held_locked : (n : ℕ) (w : Register) (b : ℕ) (area : Area) (told : Told) (c : ℕ) → (weak.note_ask n w b (Lock Work area) told).held c ≡ true → (w.held c ≡ true) ⊎ ((c ≡ b) × (is_granted told ≡ true))
held_locked n w b area Granted c h = go (busy n w && not (is_area w.area area)) h
  where
    go : (other : Bool) → (if other then record w { second = Some area; second_held = with w.second_held b } else (let s = weak.locking n w area in record s { held = with s.held b })).held c ≡ true → (w.held c ≡ true) ⊎ ((c ≡ b) × (true ≡ true))
    go true k = inl k
    go false k = elim (with_cases (weak.locking n w area).held b c k) [ inl same ↦ inr (same, refl) | inr old ↦ inl (held_locking n w area c old) ]
held_locked n w b area _ c h = inl (held_locking n w area c h)

dropped_held : (gone : Bool) (b : ℕ) (w : Register) (c : ℕ) → (weak.dropping gone b w).held c ≡ true → w.held c ≡ true
dropped_held true b w c h = without_in w.held b c h
dropped_held false b w c h = h

dropped_healing : (gone : Bool) (b : ℕ) (w : Register) (c : ℕ) → (weak.dropping gone b w).healing c ≡ true → w.healing c ≡ true
dropped_healing true b w c h = without_in w.healing b c h
dropped_healing false b w c h = h

-- the lowest brick of a set that wasn't asked
low_over : (set asked : ℕ → Bool) (b : ℕ) → is_lowest set asked b ≡ true → over b set asked ≡ true
low_over set asked b e = and_right _ _ e

low_new : (set asked : ℕ → Bool) (b : ℕ) → is_lowest set asked b ≡ true → asked b ≡ false
low_new set asked b e = not-true (asked b) (and_right _ _ (and_left _ _ e))

low_in : (set asked : ℕ → Bool) (b : ℕ) → is_lowest set asked b ≡ true → set b ≡ true
low_in set asked b e = and_left _ _ (and_left _ _ e)

-- one more brick was asked, or none
abbrev asked_then : Bool → (ℕ → Bool) → ℕ → ℕ → Bool
asked_then again asked b = if again then asked else with asked b

then_more : (again : Bool) (asked : ℕ → Bool) (b x : ℕ) → asked x ≡ true → asked_then again asked b x ≡ true
then_more true asked b x h = h
then_more false asked b x h = with_more asked b x h

then_cases : (again : Bool) (asked : ℕ → Bool) (b x : ℕ) → asked_then again asked b x ≡ true → (x ≡ b) ⊎ (asked x ≡ true)
then_cases true asked b x h = inr h
then_cases false asked b x h = with_cases asked b x h

then_self : (again : Bool) (asked : ℕ → Bool) (b x : ℕ) → again ≡ false → x ≡ b → asked_then again asked b x ≡ true
then_self true asked b x e same = absurd (true≢false e)
then_self false asked b x e same = rw same (with_self asked b)

module _ (n : ℕ) (keeps : ℕ → Kind → Bool) (r : Exact) (t b : ℕ) (told : Told) (begun : IsBegun n keeps r) (q : Queue n r.step r.part r.asked r.first_reached r.law) where
  abbrev Now : Request → Register
  Now request = weak.dropping (is_gone told) b (weak.note_ask n r.law b request told)

  abbrev again : Bool
  again = not (is_granted told || fails told)

  -- a Work Lock line at the lowest brick of the set that wasn't asked
  queued : (area : Area) (heal_part : HealPart) (asked : ℕ → Bool) → r.law.heal ≡ true → ((c : ℕ) → c < n → r.law.held c ≡ true → asked c ≡ true)
      → ((c x : ℕ) → asked c ≡ true → x < c → set_at heal_part r.law.healing r.first_reached x ≡ true → asked x ≡ true)
      → ((x : ℕ) → x < b → set_at heal_part r.law.healing r.first_reached x ≡ true → asked x ≡ true)
      → Queue n WorkLocks heal_part (asked_then again asked b) r.first_reached (Now (Lock Work area))
  queued area heal_part asked inside held down below = record {
    inside = λ e. heal_dropped (is_gone told) b (weak.note_ask n r.law b (Lock Work area) told) ∙ heal_kept n r.law b (Lock Work area) told (λ k. k) ∙ inside;
    held = λ e c low m. elim (held_locked n r.law b area told c (dropped_held (is_gone told) b (weak.note_ask n r.law b (Lock Work area) told) c m)) [
      | inl old ↦ then_more again asked b c (held c low old)
      | inr new ↦ then_self again asked b c (granted (is_granted told) (fails told) new.1) new.0
    ];
    down = λ e c x m low s. elim (then_cases again asked b c m) [
      | inl same ↦ then_more again asked b x (below x (subst (λ (k : ℕ). x < k) same low) (was heal_part x s))
      | inr old ↦ then_more again asked b x (down c x old low (was heal_part x s))
    ];
  }
    where
      granted : (g f : Bool) → g ≡ true → not (g || f) ≡ false
      granted g f e = grind arith

      was : (p : HealPart) (x : ℕ) → set_at p (Now (Lock Work area)).healing r.first_reached x ≡ true → set_at p r.law.healing r.first_reached x ≡ true
      was Opening x s = ap (λ (f : ℕ → Bool). f x) (sym (healing_locked n r.law b area told)) ∙ dropped_healing (is_gone told) b (weak.note_ask n r.law b (Lock Work area) told) x s
      was Piece x s = s
      was Finish x s = s

  idle_held : busy n r.law ≡ false → (c : ℕ) → c < n → r.law.held c ≡ true → ⊥
  idle_held idle c low m = true≢false (sym (has_busy n (record r.law { area = Some (whole_area 0 Bytes) }) c (whole_area 0 Bytes) (record { below = low; holds = First refl m })) ∙ idle)

  none_below : (set : ℕ → Bool) → is_lowest set empty b ≡ true → (x : ℕ) → x < b → set x ≡ true → empty x ≡ true
  none_below set e x low s = over_at b set empty (low_over set empty b e) x low s

  work : (source : ℕ) (area : Area) → r.law.heal ≡ true → may_heal_work n keeps r source b area ≡ true
      → Queue n WorkLocks (next_part r area) (asked_then again (asked_in r WorkLocks) b) r.first_reached (Now (Lock Work area))
  work source area inside may = go (same_step r.step WorkLocks) refl (same_step r.step HealLocks) refl may
    where
      part_same : (same_step r.step Unlocks ≡ false) → next_part r area ≡ r.part
      part_same e = rw e refl

      rank_no : (k : ℕ) → rank r.step ≡ k → (k ≡ 12 → ⊥) → same_step r.step Unlocks ≡ false
      rank_no k e nope = go (same_step r.step Unlocks) refl
        where
          go : (x : Bool) → same_step r.step Unlocks ≡ x → same_step r.step Unlocks ≡ false
          go true f = absurd (nope (sym e ∙ eqb-true (rank r.step) 12 f))
          go false f = f

      go : (wait : Bool) → same_step r.step WorkLocks ≡ wait → (heal : Bool) → same_step r.step HealLocks ≡ heal
          → (if wait then is_area r.law.area area && is_lowest (locks_at r r.part) r.asked b else if heal then is_next n r source area && is_lowest r.law.healing empty b
          else after_unlocks n r area source && not (is_finish r.part) && is_lowest r.first_reached empty b) ≡ true
          → Queue n WorkLocks (next_part r area) (asked_then again (if wait then r.asked else empty) b) r.first_reached (Now (Lock Work area))
      go true e heal f m =
          let at = work_locks r.step e in
          let same : next_part r area ≡ r.part = part_same (rank_no 6 (eqb-true (rank r.step) 6 e) (λ k. cc k)) in
          let low : is_lowest (set_at r.part r.law.healing r.first_reached) r.asked b ≡ true = subst (λ (s : ℕ → Bool). is_lowest s r.asked b ≡ true) (set_is r r.part) (and_right _ _ m) in
          subst (λ (p : HealPart). Queue n WorkLocks p (asked_then again r.asked b) r.first_reached (Now (Lock Work area))) (sym same)
          (queued area r.part r.asked inside (q.held at) (q.down at) (λ x less s. over_at b (set_at r.part r.law.healing r.first_reached) r.asked (low_over (set_at r.part r.law.healing r.first_reached) r.asked b low) x less s))
      go false e true f m =
          let at = begun.locks (heal_locks r.step f) in
          let same : next_part r area ≡ Opening = part_same (rank_no 5 (eqb-true (rank r.step) 5 f) (λ k. cc k)) ∙ at.1 in
          subst (λ (p : HealPart). Queue n WorkLocks p (asked_then again empty b) r.first_reached (Now (Lock Work area))) (sym same)
          (queued area Opening empty inside (λ c low h. absurd (idle_held at.0 c low h)) (λ c x h. absurd (true≢false (sym h))) (λ x less s. none_below r.law.healing (and_right _ _ m) x less s))
      go false e false f m =
          let idle : busy n r.law ≡ false = not-true (busy n r.law) (and_right _ _ (and_left _ _ (and_left _ _ (and_left _ _ (and_left _ _ m))))) in
          let free : same_step r.step Unlocks ≡ true = and_left _ _ (and_left _ _ (and_left _ _ (and_left _ _ (and_left _ _ m)))) in
          rw free (part (same_area (whole_area r.law.object Bytes) area) idle (and_right _ _ m))
        where
          part : (last : Bool) → busy n r.law ≡ false → is_lowest r.first_reached empty b ≡ true
              → Queue n WorkLocks (if last then Finish else Piece) (asked_then again empty b) r.first_reached (Now (Lock Work area))
          part true idle low = queued area Finish empty inside (λ c less h. absurd (idle_held idle c less h)) (λ c x h. absurd (true≢false (sym h))) (λ x less s. none_below r.first_reached low x less s)
          part false idle low = queued area Piece empty inside (λ c less h. absurd (idle_held idle c less h)) (λ c x h. absurd (true≢false (sym h))) (λ x less s. none_below r.first_reached low x less s)

  -- ---- a request
  abbrev After : Request → Type 0
  After request = Queue n (left_in_heal n r t b request told).step (left_in_heal n r t b request told).part (left_in_heal n r t b request told).asked (left_in_heal n r t b request told).first_reached (Now request)

  goes : (request : Request) (source : ℕ) → r.law.heal ≡ true → may_heal n keeps r source b request ≡ true → After request
  goes (Lock Work area) source inside may = work source area inside may
  goes (Lock Heal area) source inside may = elsewhere n HealLocks _ _ _ _ (λ e. cc e)
  goes (Unlock Work area) source inside may = elsewhere n Unlocks _ _ _ _ (λ e. cc e)
  goes (Unlock Heal area) source inside may = elsewhere n HealUnlocks _ _ _ _ (λ e. cc e)
  goes (Look g) source inside may = elsewhere n Looks _ _ _ _ (λ e. cc e)
  goes (ReadBytes g at len) source inside may = elsewhere n Reads _ _ _ _ (λ e. cc e)
  goes (ReadAttrs g) source inside may = elsewhere n Reads _ _ _ _ (λ e. cc e)
  goes (List g) source inside may = elsewhere n Reads _ _ _ _ (λ e. cc e)
  goes (Pre g kind) source inside may = elsewhere n HealPres _ _ _ _ (λ e. cc e)
  goes (Mend repair) source inside may = elsewhere n Mends _ _ _ _ (λ e. cc e)
  goes (Settle g kind less) source inside may = elsewhere n Settles _ _ _ _ (λ e. cc e)
  goes (Apply a) source inside may = absurd (true≢false (sym may))
  goes (Post a g kind missed) source inside may = absurd (true≢false (sym may))
  goes (ReadName g name) source inside may = absurd (true≢false (sym may))
  goes (ReadAttr g key) source inside may = absurd (true≢false (sym may))
  goes Index source inside may = absurd (true≢false (sym may))

  healing : (request : Request) → r.law.heal ≡ true → InHeal n keeps r b request → After request
  healing request inside (Goes m) = goes request m.source inside m.allowed
  healing (Unlock Work area) inside (Gives in_it broken free) = elsewhere n Unlocks _ _ _ _ (λ e. cc e)
  healing (Unlock Heal area) inside (Gives in_it broken free) = elsewhere n HealUnlocks _ _ _ _ (λ e. cc e)
  healing request inside (Gives in_it broken free) = absurd free

  abbrev Aside : Request → Type 0
  Aside request = Queue n (left_outside n r b request told).step (left_outside n r b request told).part (left_outside n r b request told).asked (left_outside n r b request told).first_reached (Now request)

  stayed : (s : Step) → (s ≡ WorkLocks → ⊥) → (if same_step s Untouched then Open else s) ≡ WorkLocks → ⊥
  stayed Untouched k e = cc e
  stayed WorkLocks k e = k refl
  stayed _ k e = cc e

  module _ (outside : r.law.heal ≡ false) where
    no_locks : r.step ≡ WorkLocks → ⊥
    no_locks e = true≢false (sym (q.inside e) ∙ outside)

    outer : (request : Request) → Outside n keeps r b request → Aside request
    outer (Lock Work area) may = go (busy n r.law)
      where
        go : (some : Bool) → Queue n (if some then stay r else record r { step = Open; asked = empty; unlocked = false; reached = empty; views = no_views }).step (if some then stay r else record r { step = Open; asked = empty; unlocked = false; reached = empty; views = no_views }).part
            (if some then stay r else record r { step = Open; asked = empty; unlocked = false; reached = empty; views = no_views }).asked (if some then stay r else record r { step = Open; asked = empty; unlocked = false; reached = empty; views = no_views }).first_reached (Now (Lock Work area))
        go true = elsewhere n (stay r).step _ _ _ _ (stayed r.step no_locks)
        go false = elsewhere n Open _ _ _ _ (λ e. cc e)
    outer (Lock Heal area) may = elsewhere n HealLocks _ _ _ _ (λ e. cc e)
    outer (Unlock Work area) may = elsewhere n (stay r).step _ _ _ _ (stayed r.step no_locks)
    outer (Unlock Heal area) may = elsewhere n (stay r).step _ _ _ _ (stayed r.step no_locks)
    outer (Look g) may = elsewhere n (stay r).step _ _ _ _ (stayed r.step no_locks)
    outer (Pre g kind) may = elsewhere n Pres _ _ _ _ (λ e. cc e)
    outer (Apply a) may = elsewhere n Applies _ _ _ _ (λ e. cc e)
    outer (Post a g kind missed) may = elsewhere n Posts _ _ _ _ (λ e. cc e)
    outer (Mend repair) may = absurd may
    outer (Settle g kind less) may = absurd may
    outer request may = elsewhere n (stay r).step _ _ _ _ (stayed r.step no_locks)

  abbrev Left : Request → Exact → Type 0
  Left request l = Queue n l.step l.part l.asked l.first_reached (Now request)

  pub asked : (request : Request) → MayAskExactly n keeps r b request → Left request (left_by n keeps r t b request told)
  asked request may = go r.law.heal refl may
    where
      go : (heal : Bool) → r.law.heal ≡ heal → MayAskExactly n keeps r b request
          → Left request (if heal then record (left_in_heal n r t b request told) { possible = λ s. r.possible s && may_heal n keeps r s b request; broken = r.broken || breaks r request told } else left_outside n r b request told)
      go true e (inl w) = absurd (true≢false (sym e ∙ w.0))
      go true e (inr k) = healing request e k
      go false e (inl w) = outer e request w.1
      go false e (inr (Goes m)) = absurd (true≢false (sym m.inside ∙ e))
      go false e (inr (Gives inside broken free)) = absurd (true≢false (sym inside ∙ e))

  -- a Work lock of a heal is above each that the heal holds
  pub rises : (source : ℕ) (area : Area) → r.law.heal ≡ true → may_heal_work n keeps r source b area ≡ true → RisesTo n r.law b area
  rises source area inside may c mine low (Second is m) = absurd (let k : None ≡ Some mine = sym (begun.one inside) ∙ is in cc k)
  rises source area inside may c mine low (First is m) = go (same_step r.step WorkLocks) refl (same_step r.step HealLocks) refl may
    where
      go : (wait : Bool) → same_step r.step WorkLocks ≡ wait → (heal : Bool) → same_step r.step HealLocks ≡ heal
          → (if wait then is_area r.law.area area && is_lowest (locks_at r r.part) r.asked b else if heal then is_next n r source area && is_lowest r.law.healing empty b
          else after_unlocks n r area source && not (is_finish r.part) && is_lowest r.first_reached empty b) ≡ true → IsBelow (area_object mine) c (area_object area) b
      go true e heal f k =
          let at = work_locks r.step e in
          let own : r.law.area ≡ Some area = is_area_is r.law.area area (and_left _ _ k) in
          let same : mine ≡ area = (let s : Some mine ≡ Some area = sym is ∙ own in cc s) in
          let was = q.held at c low m in
          let lowest : is_lowest (set_at r.part r.law.healing r.first_reached) r.asked b ≡ true = subst (λ (s : ℕ → Bool). is_lowest s r.asked b ≡ true) (set_is r r.part) (and_right _ _ k) in
          let new = low_new (set_at r.part r.law.healing r.first_reached) r.asked b lowest in
          inr (
            ap area_object same,
            elim (three_cases c b) [
              | inl less ↦ less
              | inr (inl equal) ↦ absurd (true≢false (sym (subst (λ (x : ℕ). r.asked x ≡ true) equal was) ∙ new))
              | inr (inr more) ↦ absurd (true≢false (sym (q.down at c b was more (low_in (set_at r.part r.law.healing r.first_reached) r.asked b lowest)) ∙ new))
            ],
          )
      go false e true f k = absurd (idle_held (begun.locks (heal_locks r.step f)).0 c low m)
      go false e false f k = absurd (idle_held (not-true (busy n r.law) (and_right _ _ (and_left _ _ (and_left _ _ (and_left _ _ (and_left _ _ k)))))) c low m)

module _ (n : ℕ) (keeps : ℕ → Kind → Bool) where
  -- the same of a register
  abbrev pub IsQueue : Exact → Type 0
  IsQueue r = Queue n r.step r.part r.asked r.first_reached r.law

  own : (t a : ℕ) (r : Exact) (line : Option Line) → is_of a line ≡ true → MayExactly n keeps (λ x. r) line → IsBegun n keeps r → IsQueue r → IsQueue (note n keeps r t line)
  own t a r None mine may h q = absurd (true≢false (sym mine))
  own t a r (Some (Ask x b request told took)) mine may h q = asked n keeps r t b.0 told h q request may.1
  own t a r (Some (Begin x change)) mine may h q = elsewhere n Open _ _ _ _ (λ e. cc e)
  own t a r (Some (HealBegin x g kind)) mine may h q = elsewhere n Looks _ _ _ _ (λ e. cc e)
  own t a r (Some (HealEnd x g kind said)) mine may h q = elsewhere n Untouched _ _ _ _ (λ e. cc e)
  own t a r (Some (End x said)) mine may h q = q
  own t a r (Some (Event event)) mine may h q = absurd (true≢false (sym mine))

  module _ (log : Log) (moves : MovesExactly n keeps log) where
    pub queue_now : (t a : ℕ) → IsQueue (present n keeps log t a)
    queue_now t a = along_now n keeps log moves (λ t a r. IsQueue r) (λ t a. elsewhere n Untouched _ _ _ _ (λ e. cc e)) (λ t a r foreign q. q)
        (λ t a mine q may. own t a (present n keeps log t a) (log t) mine may (begun_now n keeps log moves t a) q) t a
