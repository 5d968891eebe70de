-- The Heal lock of a heal: it is held where the area is held and where the first looks were answered, and nothing is settled before the last part.
use Rattle.afr_base.specs.declared.ids.Kind.{Kind}
use Rattle.afr_base.specs.declared.ids.Kind.TheVariants.{Attrs, Bytes, Names}
use Rattle.afr_base.specs.declared.marks.Marks.{Marks}
use Rattle.afr_law.proofs.Discipline.AskFields.{frees_heal, frees_work, sees, work_locked}
use Rattle.afr_model_moves.specs.Discipline.{MovesExactly, note, present}
use Rattle.afr_model_moves.specs.Heal.{MayHealBegin}
use Rattle.afr_model_moves.specs.Note.{breaks, fails, is_given, left_in_heal, next_part, put}
use Rattle.afr_model_moves.specs.Register.{Exact, Finish, HealLocks, HealPart, HealPres, Looks, Mends, Opening, Piece, Reads, Settles, Step, Unlocks, asked_in, is_finish, is_opening, rank, whole_area}
use Rattle.afr_model_moves.specs.Steps.{locks_at, looks_at, may_heal, settles_at, turn}
use Rattle.afr_law.proofs.Discipline.Firsts.{FirstsOf, firsts_now}
use Rattle.afr_law.proofs.Heals.Along.{healing_now, opened_by}
use Rattle.afr_law.proofs.Heals.Conditions.{Resumes, Starts, Waits, WorkPlace, attrs_turn, bytes_turn, heal_lock_step, list_turn, look_step, look_turn, mend_turn, pre_turn, settle_turn, settles_is, unlock_turn, work_place}
use Rattle.afr_law.proofs.Discipline.Inner.{turn_in, turn_low}
use Rattle.afr_law.proofs.Safety.Sessions.{without_other}
use Rattle.afr_model_moves.specs.Rules.{fresh, Register, heal_area}
use Rattle.afr_model_moves.specs.Lines.{heal_begin_by, look_at, settle_on}
use Rattle.afr_model_moves.specs.Sets.{empty, with, without}
use Rattle.afr_law.proofs.Discipline.StagesAlong.{StageOf, stage_now}
use Rattle.afr_lines.specs.declared.answer.Told.{Told}
use Rattle.afr_lines.specs.declared.answer.Told.TheVariants.{Done, Failed, Given, Granted, Held, NoObject, NotConnected, Seen}
use Rattle.afr_lines.specs.declared.request.Area.{Area}
use Rattle.afr_lines.specs.declared.request.Request.{Request}
use Rattle.afr_lines.specs.declared.request.Request.TheVariants.{Apply, Index, List, Lock, Look, Mend, Post, Pre, ReadAttr, ReadAttrs, ReadBytes, ReadName, Settle, Unlock}
use Rattle.afr_lines.specs.Overlap.{same_area}
use Rattle.afr_base.specs.Kinds.{same_kind}
use Rattle.afr_object.specs.declared.entry.View.{View}
use Rattle.afr_lines.specs.declared.lock.Domain.TheVariants.{Heal, Work}
use Rattle.std.proofs.Common.{Bool, ap, arith, false, inl, inr, not, refl, subst, sym, true, true≢false, ℕ, ◌&&◌, ◌<◌, ◌||◌, ◌∙◌, ◌≡◌, ◌≤◌}
use Rattle.std.proofs.lemmas.Bool.Decides.{nat_tests}
use Rattle.std.specs.Prelude.{Some, if◌then◌else◌, ◌==◌}
use Rattle.afr_model_moves.specs.Rules as weak
use Rattle.afr_model_moves.specs.Past.{Log, is_gone}
use Rattle.afr_model_moves.proofs.Tests.{with_more, with_self, with_cases, without_in, next_not_opening}

-- the last part of a heal, which settles
abbrev pub is_last : Kind → HealPart → Bool
is_last Bytes Finish = true
is_last Bytes part = false
is_last kind part = true

-- the Heal lock is held where the area is, and settled is only the last part
pub record Holds (n : ℕ) (step : Step) (part : HealPart) (kind : Kind) (asked held healing settles first_reached : ℕ → Bool) : Type 0 where
  pub within : rank step ≤ 12 → (x : ℕ) → x < n → held x ≡ true → healing x ≡ true
  pub reached : rank step ≤ 12 → (x : ℕ) → x < n → first_reached x ≡ true → healing x ≡ true
  pub settled : (x : ℕ) → settles x ≡ true → (is_last kind part ≡ true) × (11 ≤ rank step) × (step ≡ Settles → asked x ≡ true)

-- the same of a register
abbrev pub HoldsIn : ℕ → Exact → Register → Type 0
HoldsIn n r w = Holds n r.step r.part w.kind r.asked w.held w.healing w.settled r.first_reached

pub settles_last : (r : Exact) (kind : Kind) (part : HealPart) (b : ℕ) → settles_at r kind part b ≡ true → is_last kind part ≡ true
settles_last r Bytes Finish b e = refl
settles_last r Attrs part b e = refl
settles_last r Names part b e = refl
settles_last r Bytes Opening b e = absurd (true≢false (sym e))
settles_last r Bytes Piece b e = absurd (true≢false (sym e))

not_last : (kind : Kind) (part : HealPart) → same_kind kind Bytes ≡ true → not (is_finish part) ≡ true → is_last kind part ≡ true → ⊥
not_last Bytes Opening e f k = true≢false (sym k)
not_last Bytes Piece e f k = true≢false (sym k)
not_last Bytes Finish e f k = true≢false (sym f)
not_last Attrs part e f k = true≢false (sym e)
not_last Names part e f k = true≢false (sym e)

pub fails_gone : (told : Told) → fails told ≡ false → is_gone told ≡ false
fails_gone NotConnected e = absurd (true≢false e)
fails_gone _ e = refl

-- where the answer isn't lost the register is as it was noted
pub kept_law : (gone : Bool) (b : ℕ) (w : Register) → gone ≡ false → weak.dropping gone b w ≡ w
kept_law true b w e = absurd (true≢false e)
kept_law false b w e = refl

without_not : (set : ℕ → Bool) (b x : ℕ) → without set b x ≡ true → x ≡ b → ⊥
without_not set b x h e = grind (arith, nat_tests)

module _ (n : ℕ) (keeps : ℕ → Kind → Bool) (r : Exact) (t a b : ℕ) (below : b < n) (inside : r.law.heal ≡ true) (f : FirstsOf r) (s : StageOf r) (h : HoldsIn n r r.law) where
  abbrev pub LawAfter : Request → Told → Register
  LawAfter request told = weak.dropping (is_gone told) b (weak.note_ask n r.law b request told)

  abbrev HoldsAfter : Request → Told → Type 0
  HoldsAfter request told = HoldsIn n (left_in_heal n r t b request told) (LawAfter request told)

  early_reached : rank r.step ≤ 6 → r.part ≡ Opening → (x : ℕ) → r.first_reached x ≡ true → ⊥
  early_reached low first x e = true≢false (sym e ∙ f.early inside low first x)

  -- a step between the looks and the settling
  before_settles : (next : Step) (asks : ℕ → Bool) → rank r.step ≤ 10 → rank next ≤ 10 → Holds n next r.part r.law.kind asks r.law.held r.law.healing r.law.settled r.first_reached
  before_settles next asks low up = record {
    within = λ k. h.within (omega (arith, low));
    reached = λ k. h.reached (omega (arith, low));
    settled = λ x e. (let far : 11 ≤ rank r.step = (h.settled x e).1 in absurd (omega (arith, far, low)));
  }

  heal_lock : (area : Area) (told : Told) → rank r.step ≡ 5 → HoldsAfter (Lock Heal area) told
  heal_lock area told at = go told
    where
      first : r.part ≡ Opening
      first = (s.early inside (omega (arith, at))).0

      none : (x : ℕ) → r.law.settled x ≡ true → ⊥
      none x e = (let far : 11 ≤ rank r.step = (h.settled x e).1 in absurd (omega (arith, far, at)))

      no_reach : (x : ℕ) → r.first_reached x ≡ true → ⊥
      no_reach x e = early_reached (omega (arith, at)) first x e

      same : (asks : ℕ → Bool) → Holds n HealLocks r.part r.law.kind asks r.law.held r.law.healing r.law.settled r.first_reached
      same asks = record { within = λ k. h.within (omega (arith, at)); reached = λ k x low e. absurd (no_reach x e); settled = λ x e. absurd (none x e) }

      go : (d : Told) → HoldsAfter (Lock Heal area) d
      go Granted = record { within = λ k x low e. with_more r.law.healing b x (h.within (omega (arith, at)) x low e); reached = λ k x low e. absurd (no_reach x e); settled = λ x e. absurd (none x e) }
      go NotConnected = record {
        within = λ k x low e. without_other r.law.healing b x (without_not r.law.held b x e) (h.within (omega (arith, at)) x low (without_in r.law.held b x e));
        reached = λ k x low e. absurd (no_reach x e);
        settled = λ x e. absurd (none x e);
      }
      go _ = same (with (asked_in r HealLocks) b)

  -- a Work Lock line at a brick where the Heal lock is held
  work_lock : (area : Area) (told : Told) → rank r.step ≤ 12 → r.law.healing b ≡ true → ((x : ℕ) → r.law.settled x ≡ true → ⊥) → (is_gone told ≡ true → (x : ℕ) → r.first_reached x ≡ true → ⊥) → HoldsAfter (Lock Work area) told
  work_lock area told low heals none lost = (
      let w = work_locked n r.law b area told in
      record {
        within = λ k x below e. elim (w.held x e) [
          | inl here ↦ elim (w.healing b heals) [
            | inl gone ↦ absurd (true≢false (sym (subst (λ y. (LawAfter (Lock Work area) told).held y ≡ true) here e) ∙ w.lost gone.0))
            | inr still ↦ subst (λ y. (LawAfter (Lock Work area) told).healing y ≡ true) (sym here) still
          ]
          | inr old ↦ elim (w.healing x (h.within low x below old)) [
            | inl gone ↦ absurd (true≢false (sym (subst (λ y. (LawAfter (Lock Work area) told).held y ≡ true) gone.1 e) ∙ w.lost gone.0))
            | inr still ↦ still
          ]
        ];
        reached = λ k x below e. elim (w.healing x (h.reached low x below e)) [ inl gone ↦ absurd (lost gone.0 x e) | inr still ↦ still ];
        settled = λ x e. absurd (none x (ap (λ (g : ℕ → Bool). g x) (sym w.rest.settled) ∙ e));
      }
      )

  locks_healing : (part : HealPart) → rank r.step ≤ 12 → locks_at r part b ≡ true → r.law.healing b ≡ true
  locks_healing Opening low e = e
  locks_healing Piece low e = h.reached low b below e
  locks_healing Finish low e = h.reached low b below e

  heal_work : (area : Area) (told : Told) (source : ℕ) → may_heal n keeps r source b (Lock Work area) ≡ true → breaks r (Lock Work area) told ≡ false → HoldsAfter (Lock Work area) told
  heal_work area told source e un = go (work_place n keeps r source b area e)
    where
      gone_fails : (d : Told) → is_gone d ≡ true → fails d ≡ true
      gone_fails NotConnected k = refl
      gone_fails _ k = absurd (true≢false (sym k))

      opening : (p : HealPart) → not (is_opening p) ≡ false → p ≡ Opening
      opening Opening k = refl
      opening Piece k = absurd (true≢false k)
      opening Finish k = absurd (true≢false k)

      both : (x y : Bool) → x ≡ true → (x && y) ≡ false → y ≡ false
      both x y k l = grind arith

      first : is_gone told ≡ true → next_part r area ≡ Opening
      first gone = opening (next_part r area) (both (fails told) (not (is_opening (next_part r area))) (gone_fails told gone) un)

      waits : rank r.step ≤ 6 → r.law.healing b ≡ true → next_part r area ≡ r.part → HoldsAfter (Lock Work area) told
      waits low heals same = work_lock area told (omega (arith, low)) heals (λ x m. (let far : 11 ≤ rank r.step = (h.settled x m).1 in absurd (omega (arith, far, low)))) (λ gone x m. early_reached low (sym same ∙ first gone) x m)

      go : WorkPlace n keeps r source b area → HoldsAfter (Lock Work area) told
      go (Waits at same own lock fresh) = (let six : rank r.step ≡ 6 = ap rank at in waits (omega (arith, six)) (locks_healing r.part (omega (arith, six)) lock) same)
      go (Starts five same lock) = waits (omega (arith, five)) lock same
      go (Resumes twelve same idle bytes unfinished lock next) = work_lock area told (omega (arith, twelve)) (h.reached (omega (arith, twelve)) b below lock) (λ x m. not_last r.law.kind r.part bytes (rw unfinished refl) (h.settled x m).0)
          (λ gone x m. next_not_opening (same_area (whole_area r.law.object Bytes) area) (sym same ∙ first gone))

  -- a look
  look : (g : ℕ) (told : Told) (source : ℕ) → may_heal n keeps r source b (look_at g) ≡ true → breaks r (look_at g) told ≡ false → HoldsAfter (look_at g) told
  look g told source e un = go told un
    where
      at : rank r.step ≡ 7
      at = look_step n keeps r source b g e

      none : (x : ℕ) → r.law.settled x ≡ true → ⊥
      none x k = (let far : 11 ≤ rank r.step = (h.settled x k).1 in absurd (omega (arith, far, at)))

      held_here : (p : HealPart) → is_opening p ≡ true → looks_at r p b ≡ true → r.law.held b ≡ true
      held_here Opening k m = m
      held_here Piece k m = absurd (true≢false (sym k))
      held_here Finish k m = absurd (true≢false (sym k))

      heals : is_opening r.part ≡ true → r.law.healing b ≡ true
      heals k = h.within (omega (arith, at)) b below (held_here r.part k (turn_in n keeps r source Looks b (look_turn n keeps r source b g e)))

      -- the bricks that answered the first looks
      more : (opening : Bool) → is_opening r.part ≡ opening → (answer : Bool) → (x : ℕ) → x < n → (if opening then put r.first_reached b answer else r.first_reached) x ≡ true → r.law.healing x ≡ true
      more false k answer x low m = h.reached (omega (arith, at)) x low m
      more true k answer x low m = here (x == b) refl m
        where
          here : (hit : Bool) → (x == b) ≡ hit → (if hit then answer else r.first_reached x) ≡ true → r.law.healing x ≡ true
          here true l m = (let same : x ≡ b = grind (arith, nat_tests) in subst (λ y. r.law.healing y ≡ true) (sym same) (heals k))
          here false l m = h.reached (omega (arith, at)) x low m

      plain : (asks reach : ℕ → Bool) → ((x : ℕ) → x < n → reach x ≡ true → r.law.healing x ≡ true) → Holds n Looks r.part r.law.kind asks r.law.held r.law.healing r.law.settled reach
      plain asks reach k = record { within = λ l. h.within (omega (arith, at)); reached = λ l x low m. k x low m; settled = λ x m. absurd (none x m) }

      -- a lost answer to a first look
      lost : (opening : Bool) → is_opening r.part ≡ opening → not opening ≡ false → (x : ℕ) → x < n → (if opening then put r.first_reached b false else r.first_reached) x ≡ true → without r.law.healing b x ≡ true
      lost false k un x low m = absurd (true≢false un)
      lost true k un x low m = here (x == b) refl m
        where
          here : (hit : Bool) → (x == b) ≡ hit → (if hit then false else r.first_reached x) ≡ true → (if hit then false else r.law.healing x) ≡ true
          here true l m = absurd (true≢false (sym m))
          here false l m = h.reached (omega (arith, at)) x low m

      seen : (view : View) → HoldsAfter (look_at g) (Seen view)
      seen view = (
          let k = sees r.law b g view in
          let l = left_in_heal n r t b (look_at g) (Seen view) in
          record {
            within = λ m x low e. ap (λ (f : ℕ → Bool). f x) k.healing ∙ h.within (omega (arith, at)) x low (ap (λ (f : ℕ → Bool). f x) (sym k.held) ∙ e);
            reached = λ m x low e. ap (λ (f : ℕ → Bool). f x) k.healing ∙ more (is_opening r.part) refl true x low e;
            settled = λ x e. absurd (none x (ap (λ (f : ℕ → Bool). f x) (sym k.settled) ∙ e));
          }
          )

      go : (d : Told) → breaks r (look_at g) d ≡ false → HoldsAfter (look_at g) d
      go (Seen view) k = seen view
      go NoObject k = plain (left_in_heal n r t b (look_at g) NoObject).asked (left_in_heal n r t b (look_at g) NoObject).first_reached (more (is_opening r.part) refl true)
      go NotConnected k = record {
        within = λ m x low e. without_other r.law.healing b x (without_not r.law.held b x e) (h.within (omega (arith, at)) x low (without_in r.law.held b x e));
        reached = λ m x low e. lost (is_opening r.part) refl k x low e;
        settled = λ x e. absurd (none x e);
      }
      go Granted k = plain (asked_in r Looks) (if is_opening r.part then put r.first_reached b false else r.first_reached) (more (is_opening r.part) refl false)
      go (Held owner) k = plain (asked_in r Looks) (if is_opening r.part then put r.first_reached b false else r.first_reached) (more (is_opening r.part) refl false)
      go Done k = plain (asked_in r Looks) (if is_opening r.part then put r.first_reached b false else r.first_reached) (more (is_opening r.part) refl false)
      go Given k = plain (asked_in r Looks) (if is_opening r.part then put r.first_reached b false else r.first_reached) (more (is_opening r.part) refl false)
      go Failed k = plain (with (asked_in r Looks) b) (if is_opening r.part then put r.first_reached b false else r.first_reached) (more (is_opening r.part) refl false)

  settle : (g : ℕ) (kind : Kind) (less : Marks) (told : Told) (source : ℕ) → may_heal n keeps r source b (settle_on g kind less) ≡ true → fails told ≡ false → HoldsAfter (settle_on g kind less) told
  settle g kind less told source e un = go told un
    where
      turns : turn n keeps r source Settles b ≡ true
      turns = settle_turn n keeps r source b g kind less e

      low : rank r.step ≤ 11
      low = turn_low n keeps r source Settles b turns

      last : is_last r.law.kind r.part ≡ true
      last = settles_last r r.law.kind r.part b (turn_in n keeps r source Settles b turns)

      -- a brick that is settled was asked in this step
      old : (x : ℕ) → r.law.settled x ≡ true → asked_in r Settles x ≡ true
      old x k = (
          let w = h.settled x k in
          let far : 11 ≤ rank r.step = w.1 in
          let at : rank r.step ≡ 11 = omega (arith, far, low) in
          rw (ap rank (settles_is r.step at)) (w.2 (settles_is r.step at))
          )

      plain : (asks : ℕ → Bool) → ((x : ℕ) → asked_in r Settles x ≡ true → asks x ≡ true) → Holds n Settles r.part r.law.kind asks r.law.held r.law.healing r.law.settled r.first_reached
      plain asks k = record { within = λ m. h.within (omega (arith, low)); reached = λ m. h.reached (omega (arith, low)); settled = λ x m. (last, omega arith, λ z. k x (old x m)) }

      go : (d : Told) → fails d ≡ false → HoldsAfter (settle_on g kind less) d
      go Done k = record {
        within = λ m. h.within (omega (arith, low));
        reached = λ m. h.reached (omega (arith, low));
        settled = λ x m. (last, omega arith, λ z. elim (with_cases r.law.settled b x m) [ inl here ↦ subst (λ y. with (asked_in r Settles) b y ≡ true) (sym here) (with_self (asked_in r Settles) b) | inr was ↦ with_more (asked_in r Settles) b x (old x was) ]);
      }
      go NotConnected k = absurd (true≢false k)
      go Failed k = absurd (true≢false k)
      go _ k = plain (asked_in r Settles) (λ x m. m)

  -- unlocks of the area: nothing is granted
  unlock : (area : Area) (told : Told) → rank r.step ≤ 12 → is_gone told ≡ false → ((x : ℕ) → r.law.settled x ≡ true → (is_last r.law.kind r.part ≡ true)) → HoldsAfter (Unlock Work area) told
  unlock area told low ok last = (
      let k = frees_work n r.law b area told in
      let s = weak.note_ask n r.law b (Unlock Work area) told in
      subst (λ w. HoldsIn n (left_in_heal n r t b (Unlock Work area) told) w) (sym (kept_law (is_gone told) b s ok))
      (record {
        within = λ m x below e. ap (λ (f : ℕ → Bool). f x) k.1 ∙ h.within low x below (k.0.held x e);
        reached = λ m x below e. ap (λ (f : ℕ → Bool). f x) k.1 ∙ h.reached low x below e;
        settled = λ x e. (ap (λ z. is_last z r.part) k.0.rest.kind ∙ last x (ap (λ (f : ℕ → Bool). f x) (sym k.0.rest.settled) ∙ e), omega arith, λ z. absurd (cc z));
      })
      )

  unlock_heal : (area : Area) (told : Told) → is_gone told ≡ false → HoldsAfter (Unlock Heal area) told
  unlock_heal area told ok = (
      let k = frees_heal n r.law b area told in
      let s = weak.note_ask n r.law b (Unlock Heal area) told in
      subst (λ w. HoldsIn n (left_in_heal n r t b (Unlock Heal area) told) w) (sym (kept_law (is_gone told) b s ok))
      (record {
        within = λ m. absurd (omega (arith, m));
        reached = λ m. absurd (omega (arith, m));
        settled = λ x e. (ap (λ z. is_last z r.part) k.rest.kind ∙ (h.settled x (ap (λ (f : ℕ → Bool). f x) (sym k.rest.settled) ∙ e)).0, omega arith, λ z. absurd (cc z));
      })
      )

  reading : (request : Request) (told : Told) → rank r.step ≤ 8 → fails told ≡ false → Holds n Reads r.part (weak.dropping (is_gone told) b r.law).kind (if not (is_given told || fails told) then asked_in r Reads else with (asked_in r Reads) b) (weak.dropping (is_gone told) b r.law).held (weak.dropping (is_gone told) b r.law).healing (weak.dropping (is_gone told) b r.law).settled r.first_reached
  reading request told low ok = (
      let asks = if not (is_given told || fails told) then asked_in r Reads else with (asked_in r Reads) b in
      subst (λ (w : Register). Holds n Reads r.part w.kind asks w.held w.healing w.settled r.first_reached) (sym (kept_law (is_gone told) b r.law (fails_gone told ok))) (before_settles Reads asks (omega (arith, low)) (omega arith))
      )

  pub holds_asked : (request : Request) (told : Told) (source : ℕ) → may_heal n keeps r source b request ≡ true → breaks r request told ≡ false → HoldsAfter request told
  holds_asked (Lock Heal area) told source e un = heal_lock area told (heal_lock_step n keeps r source b area e)
  holds_asked (Lock Work area) told source e un = heal_work area told source e un
  holds_asked (Look g) told source e un = look g.0 told source e un
  holds_asked (ReadBytes g at len) told source e un = reading (ReadBytes g at len) told (turn_low n keeps r source Reads b (bytes_turn n keeps r source b g at len e)) un
  holds_asked (ReadAttrs g) told source e un = reading (ReadAttrs g) told (turn_low n keeps r source Reads b (attrs_turn n keeps r source b g e)) un
  holds_asked (List g) told source e un = reading (List g) told (turn_low n keeps r source Reads b (list_turn n keeps r source b g e)) un
  holds_asked (Pre g kind) told source e un = (let low : rank r.step ≤ 9 = turn_low n keeps r source HealPres b (pre_turn n keeps r source b g.0 kind e) in pre told un (omega (arith, low)))
    where
      pre : (d : Told) → fails d ≡ false → rank r.step ≤ 10 → HoldsAfter (Pre g kind) d
      pre Done k low = before_settles HealPres (with (asked_in r HealPres) b) low (omega arith)
      pre NotConnected k low = absurd (true≢false k)
      pre Failed k low = absurd (true≢false k)
      pre _ k low = before_settles HealPres (asked_in r HealPres) low (omega arith)
  holds_asked (Mend repair) told source e un = mend told un (turn_low n keeps r source Mends b (mend_turn n keeps r source b repair e))
    where
      mend : (d : Told) → fails d ≡ false → rank r.step ≤ 10 → HoldsAfter (Mend repair) d
      mend Done k low = before_settles Mends (with (asked_in r Mends) b) low (omega arith)
      mend NotConnected k low = absurd (true≢false k)
      mend Failed k low = absurd (true≢false k)
      mend _ k low = before_settles Mends (asked_in r Mends) low (omega arith)
  holds_asked (Settle g kind less) told source e un = settle g.0 kind less told source e un
  holds_asked (Unlock Work area) told source e un = unlock area told (turn_low n keeps r source Unlocks b (unlock_turn n keeps r source b area e)) un (λ x k. (h.settled x k).0)
  holds_asked (Unlock Heal area) told source e un = unlock_heal area told un
  holds_asked (Apply q) told source e un = absurd (true≢false (sym e))
  holds_asked (Post q g kind missed) told source e un = absurd (true≢false (sym e))
  holds_asked (ReadName g name) told source e un = absurd (true≢false (sym e))
  holds_asked (ReadAttr g key) told source e un = absurd (true≢false (sym e))
  holds_asked Index told source e un = absurd (true≢false (sym e))

module _ (n : ℕ) (keeps : ℕ → Kind → Bool) (log : Log) (moves : MovesExactly n keeps log) where
  first_lock : (t a b g : ℕ) (told : Told) (took : Bool) → HoldsIn n (opened_by n keeps t a b (heal_area g) told took) (opened_by n keeps t a b (heal_area g) told took).law
  first_lock t a b g Granted took = record { within = λ k x low e. absurd (cc e); reached = λ k x low e. absurd (cc e); settled = λ x e. absurd (cc e) }
  first_lock t a b g NotConnected took = record { within = λ k x low e. absurd (true≢false (sym (without_in empty b x e))); reached = λ k x low e. absurd (cc e); settled = λ x e. absurd (cc e) }
  first_lock t a b g _ took = record { within = λ k x low e. absurd (cc e); reached = λ k x low e. absurd (cc e); settled = λ x e. absurd (cc e) }

  begins : (r : Exact) (t a g : ℕ) (kind : Kind) → MayHealBegin n r g kind → HoldsIn n r r.law → HoldsIn n (note n keeps r t (Some (heal_begin_by a g kind))) (note n keeps r t (Some (heal_begin_by a g kind))).law
  begins r t a g kind may h = (
      let at : rank r.step ≡ 6 = ap rank may.step in
      record {
        within = λ k. h.within (omega (arith, at));
        reached = λ k. h.reached (omega (arith, at));
        settled = λ x e. (let far : 11 ≤ rank r.step = (h.settled x e).1 in absurd (omega (arith, far, at)));
      }
      )

  pub holds_now : (t a : ℕ) → (present n keeps log t a).law.heal ≡ true → (present n keeps log t a).broken ≡ false → HoldsIn n (present n keeps log t a) (present n keeps log t a).law
  holds_now = healing_now n keeps log moves (λ t a r k. HoldsIn n r r.law) (λ t a r k h. h) (λ t a b g told took is below. first_lock t a b g told took)
      (λ t a b request told took is below m un h. holds_asked n keeps (present n keeps log t a) t a b below m.inside (firsts_now n keeps log moves t a).0 (stage_now n keeps log moves t a) h request told m.source m.allowed un)
      (λ t a g kind is may h. begins (present n keeps log t a) t a g kind may h)
