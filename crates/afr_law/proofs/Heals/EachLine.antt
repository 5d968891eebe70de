-- The lines of a heal keep what its register says.
use Rattle.afr_lines.specs.declared.fault.Fault.TheVariants.{Fail, Lost}
use Rattle.afr_lines.specs.declared.fault.Fault.{Fault}
use Rattle.std.proofs.Common.{◌≡◌, ℕ, suc, ◌<◌, ◌≤◌, Bool, true, false, ◌&&◌, ◌||◌, not, ◌⊎◌, inl, inr, refl, sym, ap, ◌∙◌, subst, arith, true≢false}
use Rattle.std.specs.Prelude.{Option, None, Some, ◌==◌, if◌then◌else◌}
use Rattle.std.proofs.lemmas.Bool.Decides.{nat_tests}
use Rattle.afr_base.specs.declared.ids.Kind.{Kind}
use Rattle.afr_object.specs.declared.entry.View.{View}
use Rattle.afr_base.specs.declared.marks.Marks.{Marks}
use Rattle.afr_object.specs.declared.change.Repair.{Repair}
use Rattle.afr_object.specs.declared.change.Change.{Change}
use Rattle.afr_lines.specs.declared.lock.Domain.TheVariants.{Heal}
use Rattle.afr_lines.specs.declared.request.Area.{Area}
use Rattle.afr_lines.specs.declared.request.Request.{Request}
use Rattle.afr_lines.specs.declared.request.Request.TheVariants.{Lock, Mend}
use Rattle.afr_lines.specs.declared.answer.Told.{Told}
use Rattle.afr_lines.specs.declared.answer.Told.TheVariants.{Seen, Done}
use Rattle.afr_model_moves.specs.Sets.{with, without, empty}
use Rattle.afr_model_moves.specs.Cells.{Cell, fits, object_of}
use Rattle.afr_model_moves.specs.Past.{Beginning, Log, born, held, holds, touch, over, stamp, settled, mends, joined, opening, is_gone}
use Rattle.afr_model_moves.specs.Honest.{HonestAsk, HonestLine, Honest, finds, asked}
use Rattle.afr_model_moves.specs.Rules.{MayPre, Register, fresh, CoversAll, MayBegin, MayMend, begun, is_area, looked, viewed, looking, put_view, is_none, locking, area_object, piece, note_ask, dropping, note, register, MayAsk, MayHealLock, MayHealBegin, Lawful, opened, present, busy, second_of, second_freed, heal_freed}
use Rattle.afr_model_moves.proofs.AreaLemmas.{heal_freed_in}
use Rattle.afr_law.proofs.Safety.Standing.{SeenAt, Plain, Noted, noted, Grants, Waits, Frees, Tries, HealGrants, HealWaits, HealFrees, HealTries, Looks, Pres, Applies, Posts, Mends, Settles, Same}
use Rattle.afr_law.proofs.Safety.Registers.{Own, Asks, Begins, HealBegins, Ends, HealEnds, standing, registers_at, MayOf}
use Rattle.afr_law.proofs.Safety.Numbers.{carried_out, force_fresh}
use Rattle.afr_law.proofs.Safety.Acts.{Working, working, all_covers}
use Rattle.afr_law.proofs.Safety.Touches.{stamp_next}
use Rattle.afr_law.proofs.Safety.Objects.{holds_fits}
use Rattle.afr_model_moves.specs.Lines.{ask_by, begin_by, heal_begin_by, look_at, pre_on, settle_on}
use Rattle.afr_law.proofs.Heals.Looks.{SettleLine, settle_line, unsettled, OwnPre, LookAt, ViewedAt, FirstAt, Viewing, viewing_fresh, viewing_dropped, Quiet, viewing_next, done_finds, mends_plane, stamp_rises}
use Rattle.afr_law.proofs.Heals.Marks.{no_start, quiet_foreign, Ready, ready, quiet_own}
use Rattle.std.proofs.lemmas.Bool.{cases_lt, eqb-true, eqb-false}
use Rattle.afr_model_moves.proofs.Tests.{same_self, with_cases, with_false, positive}
use Rattle.afr_base.specs.Bricks.{and_left, and_right}

module _ (n : ℕ) (keeps : ℕ → Kind → Bool) (files : Beginning) (faults : ℕ → ℕ → Option Fault) (log : Log) (honest : Honest files faults log) (lawful : Lawful n keeps log) where
  viewing_begun : (t a : ℕ) (area : Area) (r : Register) → Viewing files log t a r → Viewing files log t a (begun r area)
  viewing_begun t a area r s = record {
    views = λ x view e. absurd (cc);
    firsts = s.firsts;
    wholly = λ h e f. absurd (cc);
    mended = s.mended;
    raised_first = s.raised_first;
    began = λ inside some. absurd (some refl);
    seen_began = λ x view e. absurd (cc);
    steady = λ h x inside number. absurd (cc);
  }

  viewing_second : (t a : ℕ) (r : Register) (second : Option Area) (second_held : ℕ → Bool) → Viewing files log t a r → Viewing files log t a (record r { second = second; second_held = second_held })
  viewing_second t a r second second_held s = record { views = s.views; firsts = s.firsts; wholly = s.wholly; mended = s.mended; raised_first = s.raised_first; began = s.began; seen_began = s.seen_began; steady = s.steady }

  viewing_locking : (t a : ℕ) (area : Area) (r : Register) → Viewing files log t a r → Viewing files log t a (locking n r area)
  viewing_locking t a area r s = go (busy n r)
    where
      go : (some : Bool) → Viewing files log t a (if some then record r { second = second_of r area } else begun r area)
      go true = viewing_second t a r (second_of r area) r.second_held s
      go false = viewing_begun t a area r s

  viewing_plain : (t a : ℕ) (r : Register) (held closed pre done post : ℕ → Bool) → Viewing files log t a r → Viewing files log t a (record r { held = held; closed = closed; pre = pre; done = done; post = post })
  viewing_plain t a r held closed pre done post s = record { views = s.views; firsts = s.firsts; wholly = s.wholly; mended = s.mended; raised_first = s.raised_first; began = s.began; seen_began = s.seen_began; steady = s.steady }

  -- a Heal Lock line comes before the first HealBegin
  viewing_healing : (t a : ℕ) (first : Bool) (area : Area) (healing : ℕ → Bool) (r : Register) → (first ≡ true → r ≡ fresh) → MayHealLock first r area → Viewing files log t a r → Viewing files log t a (record r { heal = true; object = area_object area; healing = healing })
  viewing_healing t a first area healing r new may s = record {
    views = λ x view e. absurd (s.seen_began x view e may.early);
    firsts = λ x view e. (let w = s.firsts x view e in absurd (omega (arith, may.early, w.start_is)));
    wholly = λ h e f. absurd (omega (arith, may.early, f));
    mended = λ c cell m e. absurd ((s.mended c cell m e).0 may.early);
    raised_first = λ x inside mine. elim may.place [
      | inl k ↦ absurd (true≢false (sym mine ∙ ap (λ (q : Register). q.raised x) (new k)))
      | inr w ↦ s.raised_first x w.0 mine
    ];
    began = λ inside some none. elim may.place [
      | inl k ↦ some (ap (λ (q : Register). q.number) (new k))
      | inr w ↦ s.began w.0 some none
    ];
    seen_began = s.seen_began;
    steady = λ h x inside number. absurd (elim may.place [
      | inl k ↦ (let z : r.number ≡ 0 = ap (λ (q : Register). q.number) (new k) in omega (arith, z, number))
      | inr w ↦ s.began w.0 (λ none. omega (arith, none, number)) may.early
    ]);
  }

  -- a look told Seen was carried out
  seen_took : (t a b g : ℕ) (view : View) (took live : Bool) (fault : Option Fault) → HonestAsk files log t a b (look_at g) (Seen view) took live fault → took ≡ true
  seen_took t a b g view took false fault h = absurd (cc h.0)
  seen_took t a b g view took true (Some Fail) h = absurd (cc h.0)
  seen_took t a b g view took true (Some Lost) h = absurd (cc h.0)
  seen_took t a b g view took true None h = h.1

  viewing_looking : (t a b g : ℕ) (view : View) (took : Bool) (r : Register) → log t ≡ Some (ask_by a b (look_at g) (Seen view) took) → present n log t a ≡ r → Ready n keeps files faults log honest lawful t a r → Viewing files log (suc t) a r → Viewing files log (suc t) a (looking r b g view)
  viewing_looking t a b g view took r is force w s = go r.heal refl
    where
      carried : took ≡ true
      carried = seen_took t a b g view took (joined log t a b || opening log t a b) (faults b (suc (asked log t b))) (subst (HonestLine files faults log t) is (honest t))

      at : log t ≡ Some (ask_by a b (look_at g) (Seen view) true)
      at = is ∙ ap (λ k. Some (ask_by a b (look_at g) (Seen view) k)) carried

      six : (z y c o k u : Bool) → (not z && y && not c && o && k && not u) ≡ true → (z ≡ false) × (y ≡ true) × (c ≡ false) × (o ≡ true) × (k ≡ true) × (u ≡ false)
      six z y c o k u e = grind arith

      put_cases : (views : ℕ → Option View) (x : ℕ) (v : View) → put_view views b view x ≡ Some v → ((x ≡ b) × (view ≡ v)) ⊎ (views x ≡ Some v)
      put_cases views x v e = pick (x == b) refl e
        where
          pick : (hit : Bool) → (x == b) ≡ hit → (if hit then Some view else views x) ≡ Some v → ((x ≡ b) × (view ≡ v)) ⊎ (views x ≡ Some v)
          pick true h k = inl (eqb-true x b h, cc k)
          pick false h k = inr k

      see : r.heal ≡ true → (hit : Bool) → (not (r.number == 0) && r.seen b && not (r.closed b) && (g == r.object) && r.healing b && not (r.settled b)) ≡ hit
          → Viewing files log (suc t) a (if hit then record r { view = put_view r.view b view; first = if (r.number == r.start) && is_none (r.first b) then put_view r.first b view else r.first } else r)
      see heal false e = s
      see heal true e = build (six (r.number == 0) (r.seen b) (r.closed b) (g == r.object) (r.healing b) (r.settled b) e)
        where
          build : ((r.number == 0) ≡ false) × (r.seen b ≡ true) × (r.closed b ≡ false) × ((g == r.object) ≡ true) × (r.healing b ≡ true) × (r.settled b ≡ false)
              → Viewing files log (suc t) a (record r { view = put_view r.view b view; first = if (r.number == r.start) && is_none (r.first b) then put_view r.first b view else r.first })
          build f = done ((r.number == r.start) && is_none (r.first b)) refl
            where
              h : (q : ℕ) × (r.number ≡ suc q)
              h = positive r.number (eqb-false r.number 0 f.0)

              work : Working n keeps files faults log honest lawful t a b (present n log t a)
              work = working n keeps files faults log honest lawful t a b (look_at g) (Seen view) h.0 at (ap (λ (q : Register). q.number) force ∙ h.1)

              lock : SeenAt log t a b r.area r.number (r.closed b)
              lock = w.standing.under b f.1

              look : LookAt log a b h.0 r.object view lock.mine
              look = record {
                l = t;
                is = at ∙ ap (λ o. Some (ask_by a b (look_at o) (Seen view) true)) (eqb-true g r.object f.3);
                after = (w.numbers.newest h.0 h.1).0;
                p = lock.p;
                grant = lock.grant;
                before = lock.before h.0 h.1;
                still = lock.on f.2 work.live;
                newest = (w.numbers.newest h.0 h.1).1;
              }

              now : ViewedAt files log (suc t) a b r.number r.object r.kind r.area view
              now = record {
                h = h.0;
                number_is = h.1;
                mine = lock.mine;
                area_is = lock.is;
                look = look;
                past = omega arith;
                marks = λ c. w.viewing.steady h.0 b heal h.1 f.1 f.4 f.5 work.live c;
              }

              still_first : (new : Bool) (x : ℕ) → (v : View) × (r.first x ≡ Some v) → (v : View) × ((if new then put_view r.first b view else r.first) x ≡ Some v)
              still_first false x f = f
              still_first true x f = pick (x == b)
                where
                  pick : (hit : Bool) → (v : View) × ((if hit then Some view else r.first x) ≡ Some v)
                  pick true = (view, refl)
                  pick false = f

              none_is : (o : Option View) → is_none o ≡ true → (v : View) → o ≡ Some v → ⊥
              none_is None e v k = cc k
              none_is (Some u) e v k = true≢false (sym e)

              first_now : r.number ≡ r.start → is_none (r.first b) ≡ true → FirstAt files log (suc t) a b r.start r.object r.kind (r.settled b) (r.healing b) r.heal (r.raised b) view
              first_now same unseen = record {
                h = h.0;
                start_is = sym same ∙ h.1;
                mine = lock.mine;
                look = look;
                past = omega arith;
                whole = λ cell real o k. all_covers n keeps files faults log honest lawful cell r.area lock.mine r.object r.kind (w.viewing.wholly h.0 h.1 (sym same ∙ h.1)) lock.is real o k;
                same = λ un heal live c. unsettled files log t b r.object r.kind (λ line. cc (line.is, is)) c;
                none = λ un heal live u low high line. (let e : u ≡ t = omega (arith, low, high) in cc ((subst (λ k. SettleLine files log k b r.object r.kind) e line).is, is));
                own = λ inside mine. (let f = w.viewing.raised_first b inside mine in absurd (none_is (r.first b) unseen f.0 f.1));
              }

              done : (new : Bool) → ((r.number == r.start) && is_none (r.first b)) ≡ new → Viewing files log (suc t) a (record r { view = put_view r.view b view; first = if new then put_view r.first b view else r.first })
              done new q = record {
                views = λ x v k. elim (put_cases r.view x v k) [
                  | inl k ↦ subst (λ y. ViewedAt files log (suc t) a y r.number r.object r.kind r.area v) (sym k.0) (subst (ViewedAt files log (suc t) a b r.number r.object r.kind r.area) k.1 now)
                  | inr old ↦ s.views x v old
                ];
                firsts = λ x v k. firsts new q x v k;
                wholly = s.wholly;
                mended = s.mended;
                raised_first = λ x inside mine. still_first new x (s.raised_first x inside mine);
                began = s.began;
                seen_began = λ x v k. elim (put_cases r.view x v k) [
                  | inl k ↦ s.began heal (eqb-false r.number 0 f.0)
                  | inr old ↦ s.seen_began x v old
                ];
                steady = s.steady;
              }
                where
                  firsts : (new : Bool) → ((r.number == r.start) && is_none (r.first b)) ≡ new → (x : ℕ) (v : View) → (if new then put_view r.first b view else r.first) x ≡ Some v → FirstAt files log (suc t) a x r.start r.object r.kind (r.settled x) (r.healing x) r.heal (r.raised x) v
                  firsts false q x v k = s.firsts x v k
                  firsts true q x v k =
                      elim (put_cases r.first x v k) [
                        | inl k ↦ subst (λ y. FirstAt files log (suc t) a y r.start r.object r.kind (r.settled y) (r.healing y) r.heal (r.raised y) v) (sym k.0) (subst (FirstAt files log (suc t) a b r.start r.object r.kind (r.settled b) (r.healing b) r.heal (r.raised b)) k.1 (first_now (eqb-true r.number r.start (and_left (r.number == r.start) (is_none (r.first b)) q)) (and_right (r.number == r.start) (is_none (r.first b)) q)))
                        | inr old ↦ s.firsts x v old
                      ]

      go : (heal : Bool) → r.heal ≡ heal → Viewing files log (suc t) a (if heal then viewed r b g view else looked r b)
      go true e = see e (not (r.number == 0) && r.seen b && not (r.closed b) && (g == r.object) && r.healing b && not (r.settled b)) refl
      go false e = add ((r.number == 0) && r.held b)
        where
          add : (hit : Bool) → Viewing files log (suc t) a (if hit then record r { seen = with r.seen b } else r)
          add true = record {
            views = s.views;
            firsts = s.firsts;
            wholly = s.wholly;
            mended = s.mended;
            raised_first = s.raised_first;
            began = s.began;
            seen_began = s.seen_began;
            steady = λ h x inside. absurd (true≢false (sym inside ∙ e));
          }
          add false = s

  -- a Mend that was told Done stamps the cells that it changes with the number
  mend_stamps : (t a b : ℕ) (repair : Repair) (r : Register) (cell : Cell) → log t ≡ Some (ask_by a b (Mend repair) Done true) → Ready n keeps files faults log honest lawful t a r → (r.number ≡ 0 → ⊥) → mends repair cell ≡ true → fits (born files log (object_of cell)) cell ≡ true → r.number ≤ stamp files log (suc t) b cell
  mend_stamps t a b repair r cell is w some inside fit =
      let h = positive r.number some in
      let found : finds files log t b (Mend repair) ≡ true = done_finds files log t a b (Mend repair) true (joined log t a b || opening log t a b) (faults b (suc (asked log t b))) (subst (HonestLine files faults log t) is (honest t)) in
      let there : holds files log t b (object_of cell) ≡ true = subst (λ g. holds files log t b g ≡ true) (mends_plane repair cell inside).0 found in
      let right = holds_fits files faults log honest t b cell fit there in
      let hit : touch files log t b cell ≡ suc h.0 = rw (right, is, same_self b, inside) ((w.numbers.newest h.0 h.1).1) in
      let stamped : stamp files log (suc t) b cell ≡ suc h.0 = stamp_next files log t b cell ∙ ap (λ k. over k (stamp files log t b cell)) hit in
      omega (arith, stamped, h.1)

  -- a Pre line that was told Done
  viewing_raised : (t a b g : ℕ) (kind : Kind) (r : Register) → MayPre log t a r b g kind → log t ≡ Some (ask_by a b (pre_on g kind) Done true) → Ready n keeps files faults log honest lawful t a r → Viewing files log (suc t) a r → Viewing files log (suc t) a (record r { pre = with r.pre b; raised = with r.raised b })
  viewing_raised t a b g kind r k at w v = record {
    views = v.views;
    firsts = λ x view e. (let f = v.firsts x view e in record {
      h = f.h;
      start_is = f.start_is;
      mine = f.mine;
      look = f.look;
      past = f.past;
      whole = f.whole;
      same = f.same;
      none = f.none;
      own = λ inside mine. own x view e f inside (with_cases r.raised b x mine);
    });
    wholly = v.wholly;
    mended = v.mended;
    raised_first = λ x inside mine. elim (with_cases r.raised b x mine) [
      | inl here ↦ (let f = k.within inside in (f.view, ap r.first here ∙ f.looked))
      | inr old ↦ v.raised_first x inside old
    ];
    began = v.began;
    seen_began = v.seen_began;
    steady = v.steady;
  }
    where
      own : (x : ℕ) (view : View) → r.first x ≡ Some view → (f : FirstAt files log (suc t) a x r.start r.object r.kind (r.settled x) (r.healing x) r.heal (r.raised x) view) → r.heal ≡ true → (x ≡ b) ⊎ (r.raised x ≡ true) → OwnPre log (suc t) a x r.object r.kind r.start f.look.l
      own x view e f inside (inr old) = f.own inside old
      own x view e f inside (inl here) = (
          let may = k.within inside in
          let number : r.number ≡ suc f.h = may.first_piece ∙ f.start_is in
          record {
            p = t;
            later = before_now f;
            past = omega arith;
            is = at ∙ (λ i. Some (ask_by a (sym here i) (pre_on (may.object_same i) (may.kind_same i)) Done true));
            newest = (w.numbers.newest f.h number).1 ∙ sym f.start_is;
          }
          )
        where
          before_now : (f : FirstAt files log (suc t) a x r.start r.object r.kind (r.settled x) (r.healing x) r.heal (r.raised x) view) → f.look.l < t
          before_now f = (
              elim (cases_lt f.look.l t) [
                | inl early ↦ early
                | inr last ↦ absurd (let here_now : f.look.l ≡ t = omega (arith, last, f.past) in let line : log t ≡ Some (ask_by a x (look_at r.object) (Seen view) true) = subst (λ k. log k ≡ Some (ask_by a x (look_at r.object) (Seen view) true)) here_now f.look.is in cc (line, at))
              ]
              )

  viewing_asked : (t a b : ℕ) (request : Request) (told : Told) (took : Bool) (r : Register) → log t ≡ Some (ask_by a b request told took) → present n log t a ≡ r → (opened log t a ≡ true → r ≡ fresh) → Ready n keeps files faults log honest lawful t a r
      → MayAsk n keeps log t a (opened log t a) r b request → Viewing files log (suc t) a (dropping (is_gone told) b (note_ask n r b request told))
  viewing_asked t a b request told took r is force new w may = viewing_dropped files log (suc t) a b (is_gone told) (note_ask n r b request told) (go (note_ask n r b request told) (noted n r b request told))
    where
      rises : (c : ℕ) (cell : Cell) → stamp files log t c cell ≤ stamp files log (suc t) c cell
      rises c cell = stamp_rises n keeps files faults log honest lawful t c cell

      m : (other : Request) → request ≡ other → MayAsk n keeps log t a (opened log t a) r b other
      m other e = subst (MayAsk n keeps log t a (opened log t a) r b) e may

      put : (l k : Register) → l ≡ k → Viewing files log (suc t) a k → Viewing files log (suc t) a l
      put l k e v = subst (Viewing files log (suc t) a) (sym e) v

      next : (healing_now : ℕ → Bool) → ((x : ℕ) (g : ℕ) (kind : Kind) (less : Marks) → request ≡ settle_on g kind less → told ≡ Done → ⊥)
          → ((x : ℕ) → (r.start ≡ 0 → ⊥) → healing_now x ≡ true → r.healing x ≡ true) → Viewing files log (suc t) a (record r { healing = healing_now })
      next healing_now other less =
          viewing_next files log t a r r.held r.closed r.pre r.done r.post r.settled healing_now rises
          (quiet_own n keeps files faults log honest lawful t a b r request told took r.settled healing_now is w (λ x un. un) (λ x g kind less e d hit un. other x g kind less e d) less) w.viewing

      same : ((x : ℕ) (g : ℕ) (kind : Kind) (less : Marks) → request ≡ settle_on g kind less → told ≡ Done → ⊥) → Viewing files log (suc t) a r
      same other = next r.healing other (λ x some heal. heal)

      go : (l : Register) → Noted n r b request told l → Viewing files log (suc t) a l
      go l (Grants area what said e) = put l _ e (pick (busy n r && not (is_area r.area area)))
        where
          pick : (other : Bool) → Viewing files log (suc t) a (if other then record r { second = Some area; second_held = with r.second_held b } else (let k = locking n r area in record k { held = with k.held b }))
          pick true = viewing_second (suc t) a r (Some area) (with r.second_held b) (same (λ x g kind less s d. cc (sym what ∙ s)))
          pick false = (
              let k = locking n r area in
              viewing_plain (suc t) a k (with k.held b) k.closed k.pre k.done k.post (viewing_locking (suc t) a area r (same (λ x g kind less s d. cc (sym what ∙ s))))
              )
      go l (Waits area what e) = put l _ e (viewing_locking (suc t) a area r (same (λ x g kind less s d. cc (sym what ∙ s))))
      go l (Frees area what said e) = put l _ e (pick (is_area r.area area))
        where
          v : Viewing files log (suc t) a r
          v = same (λ x g kind less s d. cc (sym what ∙ s))

          pick : (hit : Bool) → Viewing files log (suc t) a (if hit then record r { closed = with r.closed b; held = without r.held b } else record r { second_held = second_freed r area b })
          pick true = viewing_plain (suc t) a r (without r.held b) (with r.closed b) r.pre r.done r.post v
          pick false = viewing_second (suc t) a r r.second (second_freed r area b) v
      go l (Tries area what other e) = put l _ e (pick (is_area r.area area))
        where
          v : Viewing files log (suc t) a r
          v = same (λ x g kind less s d. cc (sym what ∙ s))

          pick : (hit : Bool) → Viewing files log (suc t) a (if hit then record r { closed = with r.closed b } else r)
          pick true = viewing_plain (suc t) a r r.held (with r.closed b) r.pre r.done r.post v
          pick false = v
      go l (HealGrants area what said e) = put l _ e (viewing_healing (suc t) a (opened log t a) area (with r.healing b) r new (m (Lock Heal area) what) (same (λ x g kind less s d. cc (sym what ∙ s))))
      go l (HealWaits area what e) = put l _ e (viewing_healing (suc t) a (opened log t a) area r.healing r new (m (Lock Heal area) what) (same (λ x g kind less s d. cc (sym what ∙ s))))
      go l (HealFrees area what said e) = put l _ e (next (heal_freed r area b) (λ x g kind less s d. cc (sym what ∙ s)) (λ x some heal. heal_freed_in r area b x heal))
      go l (HealTries area what other e) = put l _ e (same (λ x g kind less s d. cc (sym what ∙ s)))
      go l (Looks g view what said e) = put l _ e (viewing_looking t a b g view took r (is ∙ (λ i. Some (ask_by a b (what i) (said i) took))) force w (same (λ x g kind less s d. cc (sym said ∙ d))))
      go l (Pres g kind what said e) = put l _ e (
          let v = same (λ x g kind less s d. cc (sym what ∙ s)) in
          let k : MayPre log t a r b g kind = m (pre_on g kind) what in
          let at : log t ≡ Some (ask_by a b (pre_on g kind) Done true) = is ∙ (λ i. Some (ask_by a b (what i) (said i) (carried_out n keeps files faults log honest lawful t a b request told took is said i))) in
          viewing_raised t a b g kind r k at w v
          )
      go l (Applies q what said e) = put l _ e (viewing_plain (suc t) a r r.held r.closed r.pre (with r.done b) r.post (same (λ x g kind less s d. cc (sym what ∙ s))))
      go l (Posts q g kind missed what said e) = put l _ e (viewing_plain (suc t) a r r.held r.closed r.pre r.done (with r.post b) (same (λ x g kind less s d. cc (sym what ∙ s))))
      go l (Mends repair what said e) = put l _ e (
          let k : MayMend n keeps log t a r b repair = m (Mend repair) what in
          let v = same (λ x g kind less s d. cc (sym what ∙ s)) in
          let at : log t ≡ Some (ask_by a b (Mend repair) Done true) = is ∙ (λ i. Some (ask_by a b (what i) (said i) (carried_out n keeps files faults log honest lawful t a b request told took is said i))) in
          record {
            views = v.views;
            firsts = v.firsts;
            wholly = v.wholly;
            mended = λ c cell i hit. mended at k v c cell i ((c == b) && mends repair cell) refl hit;
            raised_first = v.raised_first;
            began = v.began;
            seen_began = v.seen_began;
            steady = v.steady;
          }
          )
        where
          mended : log t ≡ Some (ask_by a b (Mend repair) Done true) → MayMend n keeps log t a r b repair → Viewing files log (suc t) a r → (c : ℕ) (cell : Cell) (i : ℕ) (new : Bool) → ((c == b) && mends repair cell) ≡ new → (if new then r.number else r.mended c cell) ≡ suc i → (r.start ≡ 0 → ⊥) × (r.start ≤ suc i) × (fits (born files log (object_of cell)) cell ≡ true → suc i ≤ stamp files log (suc t) c cell)
          mended at k v c cell i false q hit = v.mended c cell i hit
          mended at k v c cell i true q hit = (
            w.viewing.began k.inside k.begun_already,
            w.numbers.since i hit,
            λ fit. (let two = both (c == b) (mends repair cell) q in let low : r.number ≤ stamp files log (suc t) c cell = subst (λ y. r.number ≤ stamp files log (suc t) y cell) (sym (eqb-true c b two.0)) (mend_stamps t a b repair r cell at w k.begun_already two.1 fit) in omega (arith, low, hit)),
          )
            where
              both : (x y : Bool) → (x && y) ≡ true → (x ≡ true) × (y ≡ true)
              both x y e = grind arith
      go l (Settles g kind less what said e) = put l _ e (
          viewing_next files log t a r r.held r.closed r.pre r.done r.post (with r.settled b) r.healing rises
          (quiet_own n keeps files faults log honest lawful t a b r request told took (with r.settled b) r.healing is w (λ x un. (with_false r.settled b x un).1) (λ x g kind less e d hit un. (with_false r.settled b x un).0 hit) (λ x some heal. heal)) w.viewing
          )
      go l (Same keeps plain e) = put l _ e (same (λ x g kind less s d. subst Plain s (plain d)))

  -- own lines other than Ask leave the marks
  quiet_other : (t a : ℕ) (r : Register) → ((b : ℕ) (g : ℕ) (kind : Kind) (less : Marks) (c : ℕ) (told : Told) → log t ≡ Some (ask_by c b (settle_on g kind less) told true) → ⊥) → Ready n keeps files faults log honest lawful t a r → Quiet files log t a r r.settled r.healing
  quiet_other t a r other w x some un heal live = (
    un,
    heal,
    elim (w.old x) [ inl back ↦ back live | inr new ↦ absurd (some (no_start r new)) ],
    λ k. other x r.object r.kind k.less k.a k.told k.is,
  )

  viewing_same : (t a : ℕ) (r : Register) → ((b : ℕ) (g : ℕ) (kind : Kind) (less : Marks) (c : ℕ) (told : Told) → log t ≡ Some (ask_by c b (settle_on g kind less) told true) → ⊥) → Ready n keeps files faults log honest lawful t a r → Viewing files log (suc t) a r
  viewing_same t a r other w = viewing_next files log t a r r.held r.closed r.pre r.done r.post r.settled r.healing (λ c cell. stamp_rises n keeps files faults log honest lawful t c cell) (quiet_other t a r other w) w.viewing

  viewing_begin : (t a : ℕ) (change : Change) (r : Register) → log t ≡ Some (begin_by a change) → MayBegin r change → Ready n keeps files faults log honest lawful t a r → Viewing files log (suc t) a (record r { number = suc t })
  viewing_begin t a change r is may w =
      let v = viewing_same t a r (λ b g kind less c told e. cc (is, e)) w in
      record {
        views = λ x view e. (let k = v.views x view e in absurd (omega (arith, k.number_is, may.first)));
        firsts = v.firsts;
        wholly = λ h e f. absurd (omega (arith, e, f, w.numbers.start_past));
        mended = v.mended;
        raised_first = v.raised_first;
        began = λ inside some. absurd (true≢false (sym inside ∙ may.outside));
        seen_began = v.seen_began;
        steady = λ h x inside. absurd (true≢false (sym inside ∙ may.outside));
      }

  viewing_piece : (t a g : ℕ) (kind : Kind) (r : Register) → log t ≡ Some (heal_begin_by a g kind) → MayHealBegin r g kind → Ready n keeps files faults log honest lawful t a r → Viewing files log (suc t) a (piece r t kind)
  viewing_piece t a g kind r is may w = go (r.start == 0) refl
    where
      v : Viewing files log (suc t) a r
      v = viewing_same t a r (λ b g kind less c told e. cc (is, e)) w

      here : (h x : ℕ) → suc t ≡ suc h → (c : ℕ) → settled files log (suc t) x c r.object kind ≡ settled files log h x c r.object kind
      here h x number c =
          elim (settle_line files log t x r.object kind) [
            | inl eq ↦ eq c ∙ (let same : t ≡ h = omega (arith, number) in ap (λ k. settled files log k x c r.object kind) same)
            | inr k ↦ absurd (cc (k.is, is))
          ]

      zero_is : (m : ℕ) → (m == 0) ≡ true → m ≡ 0
      zero_is m e = grind (arith, nat_tests)

      go : (new : Bool) → (r.start == 0) ≡ new → Viewing files log (suc t) a (record r { number = suc t; seen = r.held; closed = empty; kind = kind; start = if new then suc t else r.start; view = λ x. None })
      go true e = record {
        views = λ x view k. absurd (cc);
        firsts = λ x view k. absurd (let f = v.firsts x view k in omega (arith, f.start_is, zero_is r.start e));
        wholly = λ h k l. subst (λ o. CoversAll r.area o kind) may.same (may.whole (zero_is r.start e));
        mended = λ c cell m k. absurd ((v.mended c cell m k).0 (zero_is r.start e));
        raised_first = v.raised_first;
        began = λ inside some none. omega (arith, none);
        seen_began = λ x view k. absurd (cc);
        steady = λ h x inside number seen heal un live c. here h x number c;
      }
      go false e = record {
        views = λ x view k. absurd (cc);
        firsts = λ x view k. subst (λ o. FirstAt files log (suc t) a x r.start r.object o (r.settled x) (r.healing x) r.heal (r.raised x) view) (sym old_kind) (v.firsts x view k);
        wholly = λ h k l. absurd (omega (arith, k, l, w.numbers.start_past));
        mended = v.mended;
        raised_first = v.raised_first;
        began = λ inside some none. eqb-false r.start 0 e none;
        seen_began = λ x view k. absurd (cc);
        steady = λ h x inside number seen heal un live c. here h x number c;
      }
        where
          old_kind : kind ≡ r.kind
          old_kind = elim may.kind_same [ inl none ↦ absurd (eqb-false r.start 0 e none) | inr k ↦ k ]

  pub viewings : (t a : ℕ) → Viewing files log t a (register n log t a)
  viewings =
      registers_at n keeps files faults log honest lawful (Viewing files log) (viewing_fresh files log 0)
      (λ t a other v. viewing_next files log t a (register n log t a) (register n log t a).held (register n log t a).closed (register n log t a).pre (register n log t a).done (register n log t a).post (register n log t a).settled (register n log t a).healing
      (λ c cell. stamp_rises n keeps files faults log honest lawful t c cell) (quiet_foreign n keeps files faults log honest lawful t a (register n log t a) other (standing n keeps files faults log honest lawful t a)) v)
      (λ t a mine v may. own t a mine (ready n keeps files faults log honest lawful t a v) may)
    where
      own : (t a : ℕ) → Own log t a → Ready n keeps files faults log honest lawful t a (present n log t a) → MayOf n keeps files faults log honest lawful t a (opened log t a) (present n log t a) (log t) → Viewing files log (suc t) a (note n (present n log t a) t (log t))
      own t a (Asks b request told took is) w may =
          subst (λ l. Viewing files log (suc t) a (note n (present n log t a) t l)) (sym is)
          (viewing_asked t a b request told took (present n log t a) is refl (λ e. force_fresh n keeps files faults log honest lawful (opened log t a) (register n log t a) e) w (subst (MayOf n keeps files faults log honest lawful t a (opened log t a) (present n log t a)) is may).1)
      own t a (Begins change is) w may =
          subst (λ l. Viewing files log (suc t) a (note n (present n log t a) t l)) (sym is)
          (viewing_begin t a change (present n log t a) is (subst (MayOf n keeps files faults log honest lawful t a (opened log t a) (present n log t a)) is may) w)
      own t a (HealBegins g kind is) w may =
          subst (λ l. Viewing files log (suc t) a (note n (present n log t a) t l)) (sym is)
          (viewing_piece t a g kind (present n log t a) is (subst (MayOf n keeps files faults log honest lawful t a (opened log t a) (present n log t a)) is may) w)
      own t a (Ends reply is) w may =
          subst (λ l. Viewing files log (suc t) a (note n (present n log t a) t l)) (sym is)
          (viewing_same t a (present n log t a) (λ b g kind less c told e. cc (is, e)) w)
      own t a (HealEnds g kind reply is) w may =
          subst (λ l. Viewing files log (suc t) a (note n (present n log t a) t l)) (sym is) (viewing_fresh files log (suc t) a)
