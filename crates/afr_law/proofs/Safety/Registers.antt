-- What the register of an actor says of the lines before.
use Rattle.afr_lines.specs.declared.reply.HealReply.{HealReply}
use Rattle.afr_lines.specs.declared.reply.Reply.{Reply}
use Rattle.afr_lines.specs.declared.fault.Fault.TheVariants.{Fail, Lost}
use Rattle.afr_lines.specs.declared.fault.Fault.{Fault}
use Rattle.afr_lines.specs.Locks.{same_domain}
use Rattle.afr_lines.specs.Overlap.{same_area}
use Rattle.std.proofs.Common.{◌≡◌, ℕ, zero, suc, ◌<◌, Bool, true, false, ◌&&◌, ◌||◌, not, ◌⊎◌, inl, inr, refl, sym, ap, ◌∙◌, subst, arith}
use Rattle.std.specs.Prelude.{Option, None, Some, ◌==◌, if◌then◌else◌}
use Rattle.afr_base.specs.declared.ids.Kind.{Kind}
use Rattle.afr_object.specs.declared.change.Change.{Change}
use Rattle.afr_lines.specs.declared.lock.Domain.{Domain}
use Rattle.afr_lines.specs.declared.lock.Domain.TheVariants.{Work, Heal}
use Rattle.afr_lines.specs.declared.request.Area.{Area}
use Rattle.afr_lines.specs.declared.request.Request.{Request}
use Rattle.afr_lines.specs.declared.request.Request.TheVariants.{Lock, Unlock, Apply, Mend}
use Rattle.afr_lines.specs.declared.answer.Told.{Told}
use Rattle.afr_lines.specs.declared.answer.Told.TheVariants.{Granted, Done}
use Rattle.afr_lines.specs.declared.line.Line.{Line}
use Rattle.afr_lines.specs.declared.line.Line.TheVariants.{Ask, Begin, HealBegin, End, HealEnd, Event}
use Rattle.afr_model_moves.specs.Sets.{with}
use Rattle.afr_model_moves.specs.Past.{Beginning, Log, ends, unlocks, joined, opening, opens, place, is_of, is_gone}
use Rattle.afr_model_moves.specs.Honest.{HonestAsk, HonestLine, Honest, asked}
use Rattle.afr_model_moves.specs.Rules.{Register, fresh, is_area, locking, piece, note_ask, dropping, note, in_force, register_after, register, May, MayAsk, Lawful, opened, present, busy}
use Rattle.afr_law.proofs.Safety.Locks.{Grant, held_on, held_new}
use Rattle.afr_model_moves.specs.Lines.{ask_by, begin_by, heal_begin_by, end_by, heal_end_by, look_at, pre_on, post_on, settle_on}
use Rattle.afr_law.proofs.Safety.Standing.{KeepsLocks, Noted, Grants, Waits, Frees, Tries, HealGrants, HealWaits, HealFrees, HealTries, Looks, Pres, Applies, Posts, Mends, Settles, Same, noted, HeldAt, Standing, standing_fresh, standing_next, standing_dropped, standing_granted, standing_looking, Onward, Goes, New, onward, FairUnlock, standing_heal_freed, standing_heal_tried, standing_locking, locking_area, standing_heal_locking, keeps_all, lock_keeps, look_keeps, pre_keeps, apply_keeps, post_keeps, mend_keeps, settle_keeps, standing_released, standing_tried}
use Rattle.std.proofs.lemmas.Bool.{eqb-true}
use Rattle.afr_model_moves.proofs.Tests.{with_cases}

pub standing_asked : (n : ℕ) (keeps : ℕ → Kind → Bool) (log : Log) (t a b : ℕ) (request : Request) (told : Told) (took first : Bool) (r : Register)
    → log t ≡ Some (ask_by a b request told took) → Onward log t a first r → MayAsk n keeps log t a first r b request → FairUnlock request told took
    → Standing log (suc t) a (dropping (is_gone told) b (note_ask n r b request told))
standing_asked n keeps log t a b request told took first r is on may fair = go (note_ask n r b request told) (noted n r b request told)
  where
    base : ((domain : Domain) → KeepsLocks domain request) → Standing log (suc t) a r
    base keeps = onward log t a first r on (keeps_all request keeps log t a b told took is)

    base_at : (other : Request) → request ≡ other → ((domain : Domain) → KeepsLocks domain other) → Standing log (suc t) a r
    base_at other e keeps = base (λ domain. subst (KeepsLocks domain) (sym e) (keeps domain))

    drop : (s l : Register) → s ≡ l → Standing log (suc t) a l → Standing log (suc t) a (dropping (is_gone told) b s)
    drop s l e k = standing_dropped log (suc t) a b (is_gone told) s (subst (Standing log (suc t) a) (sym e) k)

    at : (other : Request) (said : Told) → request ≡ other → told ≡ said → log t ≡ Some (ask_by a b other said took)
    at other said e f = is ∙ (λ i. Some (ask_by a b (e i) (f i) took))

    m : (other : Request) → request ≡ other → MayAsk n keeps log t a first r b other
    m other e = subst (MayAsk n keeps log t a first r b) e may

    refused : (domain : Domain) (area : Area) → request ≡ Unlock domain area → (told ≡ Done → ⊥) → (is_gone told ≡ true) ⊎ (took ≡ false)
    refused domain area what other = elim (fair domain area what) [ inl d ↦ absurd (other d) | inr w ↦ w ]

    go : (s : Register) → Noted n r b request told s → Standing log (suc t) a (dropping (is_gone told) b s)
    go s (Grants area what said e) = drop s _ e (pick (busy n r && not (is_area r.area area)) refl)
      where
        pick : (other : Bool) → (busy n r && not (is_area r.area area)) ≡ other → Standing log (suc t) a (if other then record r { second = Some area; second_held = with r.second_held b } else (let l = locking n r area in record l { held = with l.held b }))
        pick true q = (let o = base_at (Lock Work area) what (lock_keeps Work area) in record { here = o.here; under = o.under; healing = o.healing })
        pick false q = (
            let l = locking n r area in
            let grant : Grant log t a b Work area = record { took = took; is = at (Lock Work area) Granted what said } in
            standing_granted log (suc t) a b l (standing_locking n log (suc t) a area r (base_at (Lock Work area) what (lock_keeps Work area))) (record {
              p = t;
              mine = area;
              is = locking_area n area r q;
              grant = grant;
              past = omega arith;
              before = λ q none. absurd (cc none);
              on = λ live. held_new log t a b Work area grant;
            })
            )
    go s (Waits area what e) = drop s _ e (standing_locking n log (suc t) a area r (base_at (Lock Work area) what (lock_keeps Work area)))
    go s (Frees area what said e) = drop s _ e (standing_released log t a b area told took first r (at (Unlock Work area) told what refl) on)
    go s (Tries area what other e) = subst (λ q. Standing log (suc t) a (dropping (is_gone told) b q)) (sym e) (standing_tried log t a b area told took first r (at (Unlock Work area) told what refl) on (is_gone told) (refused Work area what other))
    go s (HealGrants area what said e) = (
        let grant : Grant log t a b Heal area = record { took = took; is = at (Lock Heal area) Granted what said } in
        drop s _ e (standing_heal_locking log t a first area (with r.healing b) r on (base_at (Lock Heal area) what (lock_keeps Heal area)) (m (Lock Heal area) what)
        (λ x h. elim (with_cases r.healing b x h) [
          | inl here ↦ inl (subst (λ y. HeldAt log (suc t) a y Heal r.start (Some area)) (sym here) (record { p = t; mine = area; is = refl; grant = grant; past = omega arith; before = λ h e. absurd (let none = (m (Lock Heal area) what).early in omega (arith, none, e)); on = λ live. held_new log t a b Heal area grant }))
          | inr old ↦ inr old
        ]))
        )
    go s (HealWaits area what e) = drop s _ e (standing_heal_locking log t a first area r.healing r on (base_at (Lock Heal area) what (lock_keeps Heal area)) (m (Lock Heal area) what) (λ x h. inr h))
    go s (HealFrees area what said e) = drop s _ e (standing_heal_freed log t a b area told took first r (at (Unlock Heal area) told what refl) on)
    go s (HealTries area what other e) = subst (λ q. Standing log (suc t) a (dropping (is_gone told) b q)) (sym e) (standing_heal_tried log t a b area told took first r (at (Unlock Heal area) told what refl) on (is_gone told) (refused Heal area what other))
    go s (Looks g view what said e) = drop s _ e (standing_looking log (suc t) a b g view r (base_at (look_at g) what (look_keeps g)))
    go s (Pres g kind what said e) = drop s _ e (let o = base_at (pre_on g kind) what (pre_keeps g kind) in record { here = o.here; under = o.under; healing = o.healing })
    go s (Applies q what said e) = drop s _ e (let o = base_at (Apply q) what (apply_keeps q) in record { here = o.here; under = o.under; healing = o.healing })
    go s (Posts q g kind missed what said e) = drop s _ e (let o = base_at (post_on q g kind missed) what (post_keeps q g kind missed) in record { here = o.here; under = o.under; healing = o.healing })
    go s (Mends repair what said e) = drop s _ e (let o = base_at (Mend repair) what (mend_keeps repair) in record { here = o.here; under = o.under; healing = o.healing })
    go s (Settles g kind less what said e) = drop s _ e (let o = base_at (settle_on g kind less) what (settle_keeps g kind less) in record { here = o.here; under = o.under; healing = o.healing })
    go s (Same keeps plain e) = drop s _ e (base keeps)

fair_unlock : (files : Beginning) (log : Log) (t a b : ℕ) (domain : Domain) (area : Area) (told : Told) (took live : Bool) (fault : Option Fault)
    → HonestAsk files log t a b (Unlock domain area) told took live fault → (told ≡ Done) ⊎ (is_gone told ≡ true) ⊎ (took ≡ false)
fair_unlock files log t a b domain area told took false fault h = inr (inr h.1)
fair_unlock files log t a b domain area told took true (Some Fail) h = inr (inr h.1)
fair_unlock files log t a b domain area told took true (Some Lost) h = inr (inl (ap is_gone h.0))
fair_unlock files log t a b domain area Done took true None h = inl refl
fair_unlock files log t a b domain area _ took true None h = absurd h.0

unlocks_foreign : (a y : ℕ) (domain : Domain) (mine : Area) (line : Option Line) → is_of a line ≡ false → unlocks a y domain mine line ≡ false
unlocks_foreign a y domain mine (Some (Ask x b (Unlock other area) told took)) h = part (same_domain domain other) (same_area mine area) (b.0 == y)
  where
    part : (d s o : Bool) → (d && s && (x.0 == a) && o && took) ≡ false
    part d s o = rw h (none d s o)
      where
        none : (d s o : Bool) → (d && s && false && o && took) ≡ false
        none true true o = refl
        none true false o = refl
        none false s o = refl
unlocks_foreign a y domain mine _ h = refl

pub joined_back : (log : Log) (t a x : ℕ) → (is_of a (log t) && opens (place log t a) (log t)) ≡ false → joined log (suc t) a x ≡ true → joined log t a x ≡ true
unfolding joined opening
joined_back log t a x none live = part (joined log t a x) (is_of a (log t)) (opens (place log t a) (log t)) _ _ (not (ends a x (log t))) none live
  where
    part : (j i o s l e : Bool) → (i && o) ≡ false → ((j || (i && o && s && l)) && e) ≡ true → j ≡ true
    part true i o s l e h k = refl
    part false true o s l e h k = grind arith
    part false false o s l e h k = k

-- the kinds of lines of an actor
pub data Own (log : Log) (t a : ℕ) : Type 0 where
  Asks : (b : ℕ) (request : Request) (told : Told) (took : Bool) → log t ≡ Some (ask_by a b request told took) → Own log t a
  Begins : (change : Change) → log t ≡ Some (begin_by a change) → Own log t a
  HealBegins : (g : ℕ) (kind : Kind) → log t ≡ Some (heal_begin_by a g kind) → Own log t a
  Ends : (reply : Reply) → log t ≡ Some (end_by a reply) → Own log t a
  HealEnds : (g : ℕ) (kind : Kind) (reply : HealReply) → log t ≡ Some (heal_end_by a g kind reply) → Own log t a

pub own_line : (log : Log) (t a : ℕ) → is_of a (log t) ≡ true → Own log t a
own_line log t a h = go (log t) refl h
  where
    go : (line : Option Line) → log t ≡ line → is_of a line ≡ true → Own log t a
    go None e h = absurd (cc h)
    go (Some (Ask x b request told took)) e h = Asks b.0 request told took (e ∙ ap (λ y. Some (ask_by y b.0 request told took)) (eqb-true x.0 a h))
    go (Some (Begin x change)) e h = Begins change (e ∙ ap (λ y. Some (begin_by y change)) (eqb-true x.0 a h))
    go (Some (HealBegin x g kind)) e h = HealBegins g.0 kind (e ∙ ap (λ y. Some (heal_begin_by y g.0 kind)) (eqb-true x.0 a h))
    go (Some (End x reply)) e h = Ends reply (e ∙ ap (λ y. Some (end_by y reply)) (eqb-true x.0 a h))
    go (Some (HealEnd x g kind reply)) e h = HealEnds g.0 kind reply (e ∙ ap (λ y. Some (heal_end_by y g.0 kind reply)) (eqb-true x.0 a h))
    go (Some (Event event)) e h = absurd (cc h)

-- a Begin or HealBegin line comes after the locks
standing_begin : (log : Log) (t a : ℕ) (first : Bool) (r : Register) → Onward log t a first r → ((x : ℕ) (domain : Domain) (mine : Area) → unlocks a x domain mine (log t) ≡ false) → Standing log (suc t) a (record r { number = suc t })
standing_begin log t a first r (New e) still = subst (λ q. Standing log (suc t) a (record q { number = suc t })) (sym e) (record { here = λ x h. cc; under = λ x h. cc; healing = λ x h. cc })
standing_begin log t a first r (Goes s back old) still =
    let next = standing_next log t a r s back still in
    record {
      here = next.here;
      under = λ x h.
          let w = s.under x h in
          record {
            p = w.p;
            mine = w.mine;
            is = w.is;
            grant = w.grant;
            past = omega (arith, w.past);
            before = λ q e. omega (arith, w.past, e);
            on = λ open_still live. held_on log t a x w.p Work w.mine w.grant (w.on open_still (back x live)) live (still x Work w.mine);
          };
      healing = next.healing;
    }

standing_piece : (log : Log) (t a : ℕ) (first : Bool) (kind : Kind) (r : Register) → Onward log t a first r → ((x : ℕ) (domain : Domain) (mine : Area) → unlocks a x domain mine (log t) ≡ false) → Standing log (suc t) a (piece r t kind)
standing_piece log t a first kind r (New e) still = subst (λ q. Standing log (suc t) a (piece q t kind)) (sym e) (record { here = λ x h. cc; under = λ x h. cc; healing = λ x h. cc })
standing_piece log t a first kind r (Goes s back old) still =
    let next = standing_next log t a r s back still in
    record {
      here = next.here;
      under = λ x h.
          let w = s.here x h in
          record {
            p = w.p;
            mine = w.mine;
            is = w.is;
            grant = w.grant;
            past = omega (arith, w.past);
            before = λ q e. omega (arith, w.past, e);
            on = λ open_still live. held_on log t a x w.p Work w.mine w.grant (w.on (back x live)) live (still x Work w.mine);
          };
      healing = λ x h. (let w = s.healing x h in record {
        p = w.p;
        mine = w.mine;
        is = w.is;
        grant = w.grant;
        past = omega (arith, w.past);
        before = λ q e. starts (r.start == 0) q w.p w.before w.past e;
        on = λ live. held_on log t a x w.p Heal w.mine w.grant (w.on (back x live)) live (still x Heal w.mine);
      });
    }
  where
    starts : (none : Bool) (q p : ℕ) → ((h : ℕ) → r.start ≡ suc h → p < h) → p < t → (if none then suc t else r.start) ≡ suc q → p < q
    starts true q p old past e = omega (arith, past, e)
    starts false q p old past e = old q e

module _ (n : ℕ) (keeps : ℕ → Kind → Bool) (files : Beginning) (faults : ℕ → ℕ → Option Fault) (log : Log) (honest : Honest files faults log) (lawful : Lawful n keeps log) where
  foreign : (t a : ℕ) → is_of a (log t) ≡ false → (r : Register) → Standing log t a r → Standing log (suc t) a r
  foreign t a other r s = standing_next log t a r s (λ x. joined_back log t a x (rw other refl)) (λ x domain mine. unlocks_foreign a x domain mine (log t) other)

  pub goes_back : (t a : ℕ) → opened log t a ≡ false → (x : ℕ) → joined log (suc t) a x ≡ true → joined log t a x ≡ true
  goes_back t a e x = joined_back log t a x (both (is_of a (log t)) (opens (place log t a) (log t)) e)
    where
      both : (i o : Bool) → o ≡ false → (i && o) ≡ false
      both i o e = grind arith

  onwards : (t a : ℕ) (first : Bool) → opened log t a ≡ first → (r : Register) → Standing log t a r → Onward log t a first (in_force first r)
  onwards t a true e r s = New refl
  onwards t a false e r s = Goes s (goes_back t a e) refl

  -- a line of the actor, with what the discipline says of it
  abbrev pub MayOf : ℕ → ℕ → Bool → Register → Option Line → Type 0
  MayOf t a first r line = May n keeps log t (λ c. first) (λ c. r) line

  pub fair : (t a b : ℕ) (request : Request) (told : Told) (took : Bool) → log t ≡ Some (ask_by a b request told took) → FairUnlock request told took
  fair t a b request told took is domain area what =
      fair_unlock files log t a b domain area told took (joined log t a b || opening log t a b) (faults b (suc (asked log t b)))
      (subst (HonestLine files faults log t) (is ∙ ap (λ r. Some (ask_by a b r told took)) what) (honest t))

  standing_own : (t a : ℕ) (first : Bool) (r : Register) → Onward log t a first r → MayOf t a first r (log t) → Own log t a → Standing log (suc t) a (note n r t (log t))
  standing_own t a first r on may (Asks b request told took is) =
      rw is (standing_asked n keeps log t a b request told took first r is on (subst (MayOf t a first r) is may).1 (fair t a b request told took is))
  standing_own t a first r on may (Begins change is) = rw is (standing_begin log t a first r on (λ x domain mine. rw is refl))
  standing_own t a first r on may (HealBegins g kind is) = rw is (standing_piece log t a first kind r on (λ x domain mine. rw is refl))
  standing_own t a first r on may (Ends reply is) = rw is (onward log t a first r on (λ x domain mine. rw is refl))
  standing_own t a first r on may (HealEnds g kind reply is) = rw is (standing_fresh log (suc t) a)

  pub may_own : (t a : ℕ) → Own log t a → MayOf t a (opened log t a) (present n log t a) (log t)
  may_own t a (Asks b request told took is) = subst (MayOf t a (opened log t a) (present n log t a)) (sym is) (subst (May n keeps log t (opened log t) (present n log t)) is (lawful t))
  may_own t a (Begins change is) = subst (MayOf t a (opened log t a) (present n log t a)) (sym is) (subst (May n keeps log t (opened log t) (present n log t)) is (lawful t))
  may_own t a (HealBegins g kind is) = subst (MayOf t a (opened log t a) (present n log t a)) (sym is) (subst (May n keeps log t (opened log t) (present n log t)) is (lawful t))
  may_own t a (Ends reply is) = subst (MayOf t a (opened log t a) (present n log t a)) (sym is) (subst (May n keeps log t (opened log t) (present n log t)) is (lawful t))
  may_own t a (HealEnds g kind reply is) = subst (MayOf t a (opened log t a) (present n log t a)) (sym is) (subst (May n keeps log t (opened log t) (present n log t)) is (lawful t))

  -- what holds of a fresh register, and goes on along the lines, holds of each register
  pub registers : (P : ℕ → ℕ → Register → Type 0) → ((a : ℕ) → P 0 a fresh)
      → ((t a : ℕ) (r : Register) → is_of a (log t) ≡ false → P t a r → P (suc t) a r)
      → ((t a : ℕ) (first : Bool) (r : Register) → Own log t a → opened log t a ≡ first → P t a r → MayOf t a first (in_force first r) (log t) → P (suc t) a (note n (in_force first r) t (log t)))
      → (t a : ℕ) → P t a (register n log t a)
  unfolding register
  registers P start other own zero a = start a
  registers P start other own (suc t) a = go (is_of a (log t)) refl (registers P start other own t a)
    where
      go : (mine : Bool) → is_of a (log t) ≡ mine → P t a (register n log t a) → P (suc t) a (register_after n mine (opens (place log t a) (log t)) (register n log t a) t (log t))
      go false e before = other t a (register n log t a) e before
      go true e before = own t a (opened log t a) (register n log t a) (own_line log t a e) refl before (may_own t a (own_line log t a e))

  -- the same of the registers themselves
  pub registers_at : (P : ℕ → ℕ → Register → Type 0) → ((a : ℕ) → P 0 a fresh)
      → ((t a : ℕ) → is_of a (log t) ≡ false → P t a (register n log t a) → P (suc t) a (register n log t a))
      → ((t a : ℕ) → Own log t a → P t a (register n log t a) → MayOf t a (opened log t a) (present n log t a) (log t) → P (suc t) a (note n (present n log t a) t (log t)))
      → (t a : ℕ) → P t a (register n log t a)
  unfolding register
  registers_at P start other own zero a = start a
  registers_at P start other own (suc t) a = go (is_of a (log t)) refl (registers_at P start other own t a)
    where
      go : (mine : Bool) → is_of a (log t) ≡ mine → P t a (register n log t a) → P (suc t) a (register_after n mine (opens (place log t a) (log t)) (register n log t a) t (log t))
      go false e before = other t a e before
      go true e before = own t a (own_line log t a e) before (may_own t a (own_line log t a e))

  pub standing : (t a : ℕ) → Standing log t a (register n log t a)
  standing =
      registers (Standing log) (standing_fresh log 0) (λ t a r other s. foreign t a other r s)
      (λ t a first r mine e s may. standing_own t a first (in_force first r) (onwards t a first e r s) may mine)
