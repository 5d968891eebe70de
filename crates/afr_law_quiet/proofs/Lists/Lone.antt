-- A Heal lock that is held is one that its owner's heal has, and between heals an actor holds none.
use Rattle.std.proofs.Common.{◌≡◌, ℕ, zero, suc, ◌<◌, ◌&&◌, ◌||◌, ◌==◌, Bool, true, false, inl, inr, refl, sym, ◌∙◌, subst, ap, arith, Option, Some, None, true≢false}
use Rattle.std.specs.Prelude.{if◌then◌else◌}
use Rattle.std.proofs.lemmas.Bool.{eqb-true}
use Rattle.afr_base.specs.declared.ids.Kind.{Kind}
use Rattle.afr_lines.specs.declared.fault.Fault.{Fault}
use Rattle.afr_lines.specs.Overlap.{same_area}
use Rattle.afr_lines.specs.Places.{Between, Fresh, Indexed, Place, Within, next_place}
use Rattle.afr_lines.specs.declared.answer.Told.{Told}
use Rattle.afr_lines.specs.declared.answer.Told.TheVariants.{Done, Granted}
use Rattle.afr_lines.specs.declared.line.Line.{Line}
use Rattle.afr_lines.specs.declared.line.Line.TheVariants.{Ask, Begin, End, Event, HealBegin, HealEnd}
use Rattle.afr_lines.specs.declared.request.Area.{Area}
use Rattle.afr_lines.specs.declared.request.Request.{Request}
use Rattle.afr_lines.specs.declared.request.Request.TheVariants.{Index, Lock, Unlock}
use Rattle.afr_lines.specs.declared.lock.Domain.TheVariants.{Heal, Work}
use Rattle.afr_model_moves.proofs.AreaLemmas.{same_area_is}
use Rattle.afr_model_moves.proofs.Tests.{same_self, some_no, with_more, with_self}
use Rattle.afr_model_moves.specs.Discipline.{MayAskExactly, MayExactly, MovesExactly, exact, exact_after, in_force, note, present}
use Rattle.afr_model_moves.specs.Heal.{Gives, Goes, InHeal}
use Rattle.afr_model_moves.specs.Honest.{Honest, asked}
use Rattle.afr_model_moves.specs.Lines.{ask_by}
use Rattle.afr_model_moves.specs.Past.{Beginning, Log, ends, held, is_gone, is_of, joined, opening, opens, place, place_after, unlocks}
use Rattle.afr_model_moves.specs.Register.{Exact}
use Rattle.afr_model_moves.specs.Rules as weak
use Rattle.afr_model_moves.specs.Rules.{Register, area_object, heal_area}
use Rattle.afr_model_moves.specs.Sets.{any, without}
use Rattle.afr_law.proofs.Discipline.Asks.{IsHealLock}
use Rattle.afr_law.proofs.Discipline.Projection.{same_actor}
use Rattle.afr_law.proofs.Heals.Conditions.{heal_lock_area}
use Rattle.afr_law.proofs.Safety.Acks.{opens_out}
use Rattle.afr_law.proofs.Safety.Locks.{Grant, held_past}
use Rattle.afr_law.proofs.Safety.Numbers.{done_took}
use Rattle.afr_law.proofs.Safety.Sessions.{all_four, begin_place, gone_apart, heal_place, held_joined, honest_at, inner_place, kept_freed, step_of, without_other}
use Rattle.afr_law_quiet.proofs.Lists.Aside.{IsHealUnlock, aside}

none_at : (n : ℕ) (set : ℕ → Bool) → any n set ≡ false → (b : ℕ) → b < n → set b ≡ false
none_at n set none b low = go (set b) refl
  where
    go : (x : Bool) → set b ≡ x → set b ≡ false
    go true e = absurd (true≢false (sym (some_no n set b low e) ∙ none))
    go false e = e

-- ---- the register has each Heal lock that is held
pub record Has (n : ℕ) (w : Register) (b : ℕ) (area : Area) : Type 0 where
  pub below : b < n
  pub healing : w.healing b ≡ true
  pub object : area ≡ heal_area w.object
  pub inside : w.heal ≡ true

has_same : (n : ℕ) (w s : Register) (b : ℕ) (area : Area) → s.heal ≡ w.heal → s.object ≡ w.object → s.healing b ≡ true → Has n w b area → Has n s b area
has_same n w s b area e f m h = record { below = h.below; healing = m; object = h.object ∙ ap heal_area (sym f); inside = e ∙ h.inside }

has_dropped : (n : ℕ) (w : Register) (b y : ℕ) (gone : Bool) (area : Area) → (gone ≡ true → b ≡ y → ⊥) → Has n w b area → Has n (weak.dropping gone y w) b area
has_dropped n w b y false area apart h = h
has_dropped n w b y true area apart h = record { below = h.below; healing = without_other w.healing y b (apart refl) h.healing; object = h.object; inside = h.inside }

module _ (n : ℕ) (keeps : ℕ → Kind → Bool) (r : Exact) (a b : ℕ) (area : Area) (h : Has n r.law b area) where
  in_heal : (y : ℕ) (request : Request) → MayAskExactly n keeps r y request → InHeal n keeps r y request
  in_heal y request (inl w) = absurd (true≢false (sym h.inside ∙ w.0))
  in_heal y request (inr k) = k

  lock_area : (y : ℕ) (e : Area) → InHeal n keeps r y (Lock Heal e) → e ≡ heal_area r.law.object
  lock_area y e (Goes m) = sym (same_area_is (heal_area r.law.object) e (heal_lock_area n keeps r m.source y e m.allowed))
  lock_area y e (Gives inside broken free) = absurd free

  locks : (y : ℕ) (e : Area) (told : Told) → e ≡ heal_area r.law.object → Has n (weak.note_ask n r.law y (Lock Heal e) told) b area
  locks y e Granted is = record { below = h.below; healing = with_more r.law.healing y b h.healing; object = h.object ∙ ap heal_area (sym (ap area_object is)); inside = refl }
  locks y e told is = record { below = h.below; healing = h.healing; object = h.object ∙ ap heal_area (sym (ap area_object is)); inside = refl }

  -- an unlock of its area takes it from the brick too
  frees_it : (y : ℕ) (e : Area) (took : Bool) → same_area (heal_area r.law.object) e ≡ true → took ≡ true → unlocks a b Heal area (Some (ask_by a y (Unlock Heal e) Done took)) ≡ false → b ≡ y → ⊥
  frees_it y e took own done still same = true≢false (sym whole ∙ still)
    where
      whole : (same_area area e && (a == a) && (y == b) && took) ≡ true
      whole = all_four (same_area area e) (a == a) (y == b) took (ap (λ (of : Area). same_area of e) h.object ∙ own) (same_self a) (subst (λ (x : ℕ). (x == b) ≡ true) same (same_self b)) done

  gives : (y : ℕ) (e : Area) (told : Told) (took : Bool) → (told ≡ Done → took ≡ true) → unlocks a b Heal area (Some (ask_by a y (Unlock Heal e) told took)) ≡ false → Has n (weak.note_ask n r.law y (Unlock Heal e) told) b area
  gives y e Done took done still = record { below = h.below; healing = freed (same_area (heal_area r.law.object) e) refl; object = h.object; inside = h.inside }
    where
      freed : (own : Bool) → same_area (heal_area r.law.object) e ≡ own → (if own then without r.law.healing y else r.law.healing) b ≡ true
      freed true f = without_other r.law.healing y b (frees_it y e took f (done refl) still) h.healing
      freed false f = h.healing
  gives y e told took done still = h

  others : (y : ℕ) (request : Request) (told : Told) → (IsHealLock request → ⊥) → (IsHealUnlock request → ⊥) → Has n (weak.note_ask n r.law y request told) b area
  others y request told free kept =
      let k = aside n r.law y request told free in
      has_same n r.law (weak.note_ask n r.law y request told) b area k.heal k.object (ap (λ (set : ℕ → Bool). set b) (k.healing kept) ∙ h.healing) h

  -- a request of the actor leaves what is held
  asks : (y : ℕ) (request : Request) (told : Told) (took : Bool) → MayAskExactly n keeps r y request → (told ≡ Done → took ≡ true) → unlocks a b Heal area (Some (ask_by a y request told took)) ≡ false
      → Has n (weak.note_ask n r.law y request told) b area
  asks y (Lock Heal e) told took may done still = locks y e told (lock_area y e (in_heal y (Lock Heal e) may))
  asks y (Unlock Heal e) told took may done still = gives y e told took done still
  asks y (Lock Work e) told took may done still = others y (Lock Work e) told (λ k. k) (λ k. k)
  asks y (Unlock Work e) told took may done still = others y (Unlock Work e) told (λ k. k) (λ k. k)
  asks y request told took may done still = others y request told (λ k. k) (λ k. k)

-- ---- along the lines
pub record Lone (n : ℕ) (log : Log) (t a : ℕ) (r : Exact) (at : Place) : Type 0 where
  pub locks : (b q : ℕ) (area : Area) → Grant log q a b Heal area → held log t b q ≡ true → Has n r.law b area
  pub rest : (at ≡ Within → ⊥) → (b : ℕ) → b < n → r.law.healing b ≡ false

module _ (n : ℕ) (files : Beginning) (faults : ℕ → ℕ → Option Fault) (log : Log) (honest : Honest files faults log) (moves : MovesExactly n files.keeps log) where
  -- the lock that a line gets
  new_lock : (t a b : ℕ) (area : Area) (r : Exact) → Grant log t a b Heal area → MayExactly n files.keeps (λ x. r) (log t) → Has n (note n files.keeps r t (log t)).law b area
  new_lock t a b area r grant may = subst (λ (l : Option Line). Has n (note n files.keeps r t l).law b area) (sym grant.is) (record { below = here.0; healing = with_self r.law.healing b; object = of_object here.1; inside = refl })
    where
      here : MayExactly n files.keeps (λ x. r) (Some (ask_by a b (Lock Heal area) Granted grant.took))
      here = subst (MayExactly n files.keeps (λ x. r)) grant.is may

      by_object : (g : ℕ) → area ≡ heal_area g → area ≡ heal_area (area_object area)
      by_object g e = e ∙ ap heal_area (sym (ap area_object e))

      of_object : MayAskExactly n files.keeps r b (Lock Heal area) → area ≡ heal_area (area_object area)
      of_object (inl w) = by_object (w.1).g (w.1).range
      of_object (inr (Goes m)) = by_object r.law.object (sym (same_area_is (heal_area r.law.object) area (heal_lock_area n files.keeps r m.source b area m.allowed)))
      of_object (inr (Gives inside broken free)) = absurd free

  -- the place after a request
  rest_asked : (at : Place) (r : Exact) (t y : ℕ) (x : ℕ) (request : Request) (told : Told) (took : Bool) → (next_place at (ask_by x y request told took) ≡ Within → ⊥) → (b : ℕ)
      → (weak.dropping (is_gone told) y (weak.note_ask n (in_force (opens at (Some (ask_by x y request told took))) r).law y request told)).healing b ≡ false
  unfolding opens
  rest_asked Fresh r t y x Index told took out b = go (is_gone told)
    where
      go : (gone : Bool) → (weak.dropping gone y weak.fresh).healing b ≡ false
      go false = refl
      go true = none (b == y)
        where
          none : (same : Bool) → (if same then false else false) ≡ false
          none true = refl
          none false = refl
  rest_asked Fresh r t y x request told took out b = absurd (out refl)
  rest_asked Indexed r t y x request told took out b = absurd (out refl)
  rest_asked Between r t y x request told took out b = absurd (out refl)
  rest_asked Within r t y x request told took out b = absurd (out refl)

  -- what stands in the register in force
  force_locks : (t a : ℕ) (r : Exact) (at : Place) → Lone n log t a r at → (b q : ℕ) (area : Area) → Grant log q a b Heal area → held log t b q ≡ true → Has n (in_force (opens at (log t)) r).law b area
  force_locks t a r at h b q area grant k = go (opens at (log t)) refl
    where
      go : (first : Bool) → opens at (log t) ≡ first → Has n (in_force first r).law b area
      go false e = h.locks b q area grant k
      go true e = (let w = h.locks b q area grant k in absurd (true≢false (sym w.healing ∙ h.rest (opens_out at (log t) e) b w.below)))

  -- a line of the actor
  own : (t a : ℕ) (r : Exact) (line : Option Line) → log t ≡ line → is_of a line ≡ true → MayExactly n files.keeps (λ x. r) line
      → (b q : ℕ) (area : Area) → Grant log q a b Heal area → q < t → held log t b q ≡ true → ends a b (log t) ≡ false → unlocks a b Heal area (log t) ≡ false → Has n r.law b area → Has n (note n files.keeps r t line).law b area
  own t a r None is mine may b q area grant past k lasts still h = absurd (true≢false (sym mine))
  own t a r (Some (Ask x y request told took)) is mine may b q area grant past k lasts still h =
      let here : log t ≡ Some (ask_by a y.0 request told took) = is ∙ ap (λ (z : ℕ). Some (ask_by z y.0 request told took)) (eqb-true x.0 a mine) in
      has_dropped n (weak.note_ask n r.law y.0 request told) b y.0 (is_gone told) area
      (gone_apart files faults log honest t a b y.0 request told took here (held_joined files faults log honest t a b q Heal area grant k) lasts)
      (asks n files.keeps r a b area h y.0 request told took may.1 (λ e. done t a y.0 request told took here e) (subst (λ (l : Option Line). unlocks a b Heal area l ≡ false) here still))
    where
      done : (t a y : ℕ) (request : Request) (told : Told) (took : Bool) → log t ≡ Some (ask_by a y request told took) → told ≡ Done → took ≡ true
      done t a y request told took at e = (
          let done_line : log t ≡ Some (ask_by a y request Done took) = at ∙ ap (λ (d : Told). Some (ask_by a y request d took)) e in
          done_took files log t a y request took (joined log t a y || opening log t a y) (faults y (suc (asked log t y))) (honest_at files faults log honest t a y request Done took done_line)
          )
  own t a r (Some (Begin x change)) is mine may b q area grant past k lasts still h = has_same n r.law (note n files.keeps r t (Some (Begin x change))).law b area refl refl h.healing h
  own t a r (Some (HealBegin x g kind)) is mine may b q area grant past k lasts still h = has_same n r.law (note n files.keeps r t (Some (HealBegin x g kind))).law b area refl refl h.healing h
  own t a r (Some (HealEnd x g kind said)) is mine may b q area grant past k lasts still h = absurd (true≢false (sym h.healing ∙ none_at n r.law.healing may.healed b h.below))
  own t a r (Some (End x said)) is mine may b q area grant past k lasts still h = h
  own t a r (Some (Event e)) is mine may b q area grant past k lasts still h = absurd (true≢false (sym mine))

  own_rest : (t a : ℕ) (e : Exact) (at : Place) (line : Option Line) → is_of a line ≡ true → MayExactly n files.keeps (λ x. in_force (opens at line) e) line → (place_after true at line ≡ Within → ⊥) → (b : ℕ) → b < n → (note n files.keeps (in_force (opens at line) e) t line).law.healing b ≡ false
  own_rest t a e at None mine may out b low = absurd (true≢false (sym mine))
  own_rest t a e at (Some (Ask x y request told took)) mine may out b low = rest_asked at e t y.0 x.0 request told took out b
  own_rest t a e at (Some (Begin x change)) mine may out b low = absurd (inner_place at (Begin x change) (begin_place x change) out)
  own_rest t a e at (Some (HealBegin x g kind)) mine may out b low = absurd (inner_place at (HealBegin x g kind) (heal_place x g kind) out)
  own_rest t a e at (Some (HealEnd x g kind said)) mine may out b low = refl
  own_rest t a e at (Some (End x said)) mine may out b low = none_at n _ may.healed b low
  own_rest t a e at (Some (Event event)) mine may out b low = absurd (true≢false (sym mine))

  pub lone : (t a : ℕ) → Lone n log t a (exact n files.keeps log t a) (place log t a)
  unfolding exact place
  lone zero a = record { locks = λ b q area grant h. absurd (omega (arith, held_past log 0 b q h)); rest = λ out b low. refl }
  lone (suc t) a = go (lone t a) (is_of a (log t)) refl
    where
      go : Lone n log t a (exact n files.keeps log t a) (place log t a) → (mine : Bool) → is_of a (log t) ≡ mine
          → Lone n log (suc t) a (exact_after n files.keeps mine (opens (place log t a) (log t)) (exact n files.keeps log t a) t (log t)) (place_after mine (place log t a) (log t))
      go ih false e = record {
        locks = λ b q area grant h. elim (step_of log t b q h) [ inl w ↦ absurd (foreign b q area grant w) | inr w ↦ ih.locks b q area grant w.0 ];
        rest = ih.rest;
      }
        where
          foreign : (b q : ℕ) (area : Area) → Grant log q a b Heal area → q ≡ t → ⊥
          foreign b q area grant same = true≢false (sym (ap (is_of a) (ap log (sym same) ∙ grant.is) ∙ same_self a) ∙ e)
      go ih true e = record {
        locks = λ b q area grant h. elim (step_of log t b q h) [
          | inl same ↦ new_lock t a b area (present n files.keeps log t a) (record { took = grant.took; is = ap log (sym same) ∙ grant.is }) may
          | inr w ↦ (let f = kept_freed files faults log honest t a b q Heal area grant (held_past log t b q w.0) w.1 in
              own t a (present n files.keeps log t a) (log t) refl e may b q area grant (held_past log t b q w.0) w.0 f.0 f.1 (force_locks t a (exact n files.keeps log t a) (place log t a) ih b q area grant w.0))
        ];
        rest = own_rest t a (exact n files.keeps log t a) (place log t a) (log t) e may;
      }
        where
          may : MayExactly n files.keeps (λ x. present n files.keeps log t a) (log t)
          may = same_actor n files.keeps log t a (log t) e (moves t)
