-- A Work lock that a brick has is one that its owner's register holds, and between works an actor holds none.
use Rattle.std.proofs.Common.{◌≡◌, ℕ, zero, suc, ◌<◌, ◌&&◌, ◌||◌, not, ◌==◌, Bool, true, false, ◌⊎◌, inl, inr, refl, sym, ◌∙◌, subst, ap, arith, Option, Some, None, true≢false}
use Rattle.std.specs.Prelude.{if◌then◌else◌}
use Rattle.std.proofs.lemmas.Bool.{eqb-true, or_left, or_right}
use Rattle.afr_base.specs.declared.ids.Kind.{Kind}
use Rattle.afr_lines.specs.declared.fault.Fault.{Fault}
use Rattle.afr_lines.specs.Overlap.{same_area}
use Rattle.afr_lines.specs.Places.{Between, Fresh, Indexed, Place, Within, next_place}
use Rattle.afr_lines.specs.declared.answer.Told.TheVariants.{Done, Granted}
use Rattle.afr_lines.specs.declared.answer.Told.{Told}
use Rattle.afr_lines.specs.declared.line.Line.TheVariants.{Ask, Begin, End, Event, HealBegin, HealEnd}
use Rattle.afr_lines.specs.declared.line.Line.{Line}
use Rattle.afr_lines.specs.declared.request.Area.{Area}
use Rattle.afr_lines.specs.declared.request.Request.TheVariants.{Index, Lock, Unlock}
use Rattle.afr_lines.specs.declared.request.Request.{Request}
use Rattle.afr_model_moves.proofs.AreaLemmas.{is_area_is, same_area_self}
use Rattle.afr_model_moves.proofs.Tests.{same_self, some_no, with_more, with_self}
use Rattle.afr_model_moves.specs.Discipline.{MayAskExactly, MayExactly, MovesExactly, exact, exact_after, in_force, note, present}
use Rattle.afr_model_moves.specs.Heal.{Gives, Goes}
use Rattle.afr_model_moves.specs.Honest.{Honest, asked}
use Rattle.afr_model_moves.specs.Lines.{ask_by}
use Rattle.afr_model_moves.specs.Past.{Beginning, Log, ends, held, is_gone, is_of, joined, opening, opens, place, place_after, unlocks}
use Rattle.afr_model_moves.specs.Register.{Exact}
use Rattle.afr_model_moves.specs.Rules as weak
use Rattle.afr_model_moves.specs.Rules.{Register, busy, is_area}
use Rattle.afr_model_moves.specs.Sets.{any, empty, with, without}
use Rattle.afr_lines.specs.declared.lock.Domain.TheVariants.{Heal, Work}
use Rattle.afr_law_bound.proofs.Begun.{IsBegun, begun_now, no_busy, own_or_idle}
use Rattle.afr_law.proofs.Safety.Acks.{opens_out}
use Rattle.afr_law.proofs.Safety.Sessions.{all_four, begin_place, gone_apart, heal_place, held_joined, honest_at, inner_place, kept_freed, step_of, without_other}
use Rattle.afr_law.proofs.Discipline.Projection.{same_actor}
use Rattle.afr_law.proofs.Safety.Locks.{Grant, held_past}
use Rattle.afr_law.proofs.Safety.Numbers.{done_took}
use Rattle.afr_law_bound.proofs.Fields.{Still, busy_less, less_dropped, less_still, still}
use Rattle.afr_law_bound.specs.Waiting.{First, Holds, Second}

-- the register holds it, at a brick of the volume
pub record Has (n : ℕ) (w : Register) (b : ℕ) (area : Area) : Type 0 where
  pub below : b < n
  pub holds : Holds w b area

-- who holds a lock is busy
pub has_busy : (n : ℕ) (w : Register) (b : ℕ) (area : Area) → Has n w b area → busy n w ≡ true
has_busy n w b area h = go h.holds
  where
    go : Holds w b area → busy n w ≡ true
    go (First is m) = or_left (any n w.held) (any n w.second_held) (some_no n w.held b h.below m)
    go (Second is m) = or_right (any n w.held) (any n w.second_held) (some_no n w.second_held b h.below m)

has_still : (n : ℕ) (w s : Register) (b : ℕ) (area : Area) → Still w s → Has n w b area → Has n s b area
has_still n w s b area k h = record { below = h.below; holds = go h.holds }
  where
    go : Holds w b area → Holds s b area
    go (First is m) = First (k.area ∙ is) (ap (λ (f : ℕ → Bool). f b) k.held ∙ m)
    go (Second is m) = Second (k.second ∙ is) (ap (λ (f : ℕ → Bool). f b) k.second_held ∙ m)

has_dropped : (n : ℕ) (w : Register) (b y : ℕ) (gone : Bool) (area : Area) → (gone ≡ true → b ≡ y → ⊥) → Has n w b area → Has n (weak.dropping gone y w) b area
has_dropped n w b y false area apart h = h
has_dropped n w b y true area apart h = record { below = h.below; holds = go h.holds }
  where
    go : Holds w b area → Holds (weak.dropping true y w) b area
    go (First is m) = First is (without_other w.held y b (apart refl) m)
    go (Second is m) = Second is (without_other w.second_held y b (apart refl) m)

-- the area of a Work lock that is asked for while one is held: the first, or the second that may be
abbrev pub IsOneOf : Register → Area → Type 0
IsOneOf w e = (is_area w.area e ≡ true) ⊎ ((w.second ≡ None) ⊎ (w.second ≡ Some e))

-- a request for a Work lock
module _ (n : ℕ) (w : Register) (b : ℕ) (area : Area) (h : Has n w b area) (y : ℕ) (e : Area) (one : IsOneOf w e) where
  locks_locking : Has n (weak.locking n w e) b area
  locks_locking = go (busy n w) (is_area w.area e) refl refl
    where
      go : (some own : Bool) → busy n w ≡ some → is_area w.area e ≡ own → Has n (if some then record w { second = if own then w.second else Some e } else weak.begun w e) b area
      go true true f g = record { below = h.below; holds = pick h.holds }
        where
          pick : Holds w b area → Holds (record w { second = w.second }) b area
          pick (First is m) = First is m
          pick (Second is m) = Second is m
      go true false f g = record { below = h.below; holds = pick h.holds }
        where
          second_is : w.second ≡ Some area → Some e ≡ Some area
          second_is is = elim one [
            | inl own ↦ absurd (true≢false (sym own ∙ g))
            | inr (inl none) ↦ absurd (let k : None ≡ Some area = sym none ∙ is in cc k)
            | inr (inr same) ↦ sym same ∙ is
          ]

          pick : Holds w b area → Holds (record w { second = Some e }) b area
          pick (First is m) = First is m
          pick (Second is m) = Second (second_is is) m
      go false own f g = absurd (true≢false (sym (has_busy n w b area h) ∙ f))

  locks_granting : Has n (weak.granting n w e y) b area
  locks_granting = go (busy n w) (is_area w.area e) refl refl
    where
      go : (some own : Bool) → busy n w ≡ some → is_area w.area e ≡ own
          → Has n (if some && not own then record w { second = Some e; second_held = with w.second_held y } else (let s = (if some then record w { second = if own then w.second else Some e } else weak.begun w e) in record s { held = with s.held y })) b area
      go true true f g = record { below = h.below; holds = pick h.holds }
        where
          pick : Holds w b area → Holds (record w { second = w.second; held = with w.held y }) b area
          pick (First is m) = First is (with_more w.held y b m)
          pick (Second is m) = Second is m
      go true false f g = record { below = h.below; holds = pick h.holds }
        where
          second_is : w.second ≡ Some area → Some e ≡ Some area
          second_is is = elim one [
            | inl own ↦ absurd (true≢false (sym own ∙ g))
            | inr (inl none) ↦ absurd (let k : None ≡ Some area = sym none ∙ is in cc k)
            | inr (inr same) ↦ sym same ∙ is
          ]

          pick : Holds w b area → Holds (record w { second = Some e; second_held = with w.second_held y }) b area
          pick (First is m) = First is m
          pick (Second is m) = Second (second_is is) (with_more w.second_held y b m)
      go false own f g = absurd (true≢false (sym (has_busy n w b area h) ∙ f))

  pub locks : (told : Told) → Has n (weak.note_ask n w y (Lock Work e) told) b area
  locks Granted = locks_granting
  locks _ = locks_locking

-- a request that gives a Work lock back
module _ (n : ℕ) (w : Register) (b : ℕ) (area : Area) (h : Has n w b area) (y : ℕ) (e : Area) where
  apart_area : (of : Option Area) → (b ≡ y → area ≡ e → ⊥) → of ≡ Some area → is_area of e ≡ true → b ≡ y → ⊥
  apart_area of apart is m same = apart same (let k : Some area ≡ Some e = sym is ∙ is_area_is of e m in cc k)

  gives : (told : Told) → (told ≡ Done → b ≡ y → area ≡ e → ⊥) → Has n (weak.note_ask n w y (Unlock Work e) told) b area
  gives Done apart = go (is_area w.area e) refl
    where
      freed : (own : Bool) → is_area w.second e ≡ own → w.second ≡ Some area → w.second_held b ≡ true → (if own then without w.second_held y else w.second_held) b ≡ true
      freed true g is m = without_other w.second_held y b (apart_area w.second (apart refl) is g) m
      freed false g is m = m

      go : (own : Bool) → is_area w.area e ≡ own → Has n (if own then record w { closed = with w.closed y; held = without w.held y } else record w { second_held = weak.second_freed w e y }) b area
      go true g = record { below = h.below; holds = pick h.holds }
        where
          pick : Holds w b area → Holds (record w { closed = with w.closed y; held = without w.held y }) b area
          pick (First is m) = First is (without_other w.held y b (apart_area w.area (apart refl) is g) m)
          pick (Second is m) = Second is m
      go false g = record { below = h.below; holds = pick h.holds }
        where
          pick : Holds w b area → Holds (record w { second_held = weak.second_freed w e y }) b area
          pick (First is m) = First is m
          pick (Second is m) = Second is (freed (is_area w.second e) refl is m)
  gives _ apart = go (is_area w.area e)
    where
      go : (own : Bool) → Has n (if own then record w { closed = with w.closed y } else w) b area
      go true = record { below = h.below; holds = pick h.holds }
        where
          pick : Holds w b area → Holds (record w { closed = with w.closed y }) b area
          pick (First is m) = First is m
          pick (Second is m) = Second is m
      go false = h

-- the area that a line may ask for
pub one_of : (n : ℕ) (keeps : ℕ → Kind → Bool) (r : Exact) → IsBegun n keeps r → (y : ℕ) (e : Area) → busy n r.law ≡ true → MayAskExactly n keeps r y (Lock Work e) → IsOneOf r.law e
one_of n keeps r begun y e some (inl (outside, may)) = elim (may.within some).1 [ inl own ↦ inl own | inr (inl none) ↦ inr (inl none) | inr (inr second) ↦ inr (inr (is_area_is r.law.second e second)) ]
one_of n keeps r begun y e some (inr (Goes m)) = elim (own_or_idle n keeps r 0 y Granted begun m.source e m.allowed) [ inl idle ↦ absurd (true≢false (sym some ∙ idle)) | inr own ↦ inl own ]
one_of n keeps r begun y e some (inr (Gives inside broken free)) = absurd free

-- a request of the actor leaves what is held
asks : (n : ℕ) (keeps : ℕ → Kind → Bool) (r : Exact) → IsBegun n keeps r → (a b : ℕ) (area : Area) → Has n r.law b area → (y : ℕ) (request : Request) (told : Told) (took : Bool) → MayAskExactly n keeps r y request
    → (told ≡ Done → took ≡ true) → unlocks a b Work area (Some (ask_by a y request told took)) ≡ false → Has n (weak.note_ask n r.law y request told) b area
asks n keeps r begun a b area h y (Lock Work e) told took may done kept = locks n r.law b area h y e (one_of n keeps r begun y e (has_busy n r.law b area h) may) told
asks n keeps r begun a b area h y (Unlock Work e) told took may done kept = gives n r.law b area h y e told (λ said same is. true≢false (sym (whole said same is) ∙ kept))
  where
    whole : told ≡ Done → b ≡ y → area ≡ e → (same_area area e && (a == a) && (y == b) && took) ≡ true
    whole said same is = all_four (same_area area e) (a == a) (y == b) took (rw is (same_area_self e)) (same_self a) (subst (λ (x : ℕ). (x == b) ≡ true) same (same_self b)) (done said)
asks n keeps r begun a b area h y (Lock Heal e) told took may done kept = has_still n r.law (weak.note_ask n r.law y (Lock Heal e) told) b area (still n r.law y (Lock Heal e) told tt) h
asks n keeps r begun a b area h y (Unlock Heal e) told took may done kept = has_still n r.law (weak.note_ask n r.law y (Unlock Heal e) told) b area (still n r.law y (Unlock Heal e) told tt) h
asks n keeps r begun a b area h y request told took may done kept = has_still n r.law (weak.note_ask n r.law y request told) b area (still n r.law y request told tt) h

-- ---- along the lines
pub record Own (n : ℕ) (log : Log) (t a : ℕ) (r : Exact) (at : Place) : Type 0 where
  pub locks : (b q : ℕ) (area : Area) → Grant log q a b Work area → held log t b q ≡ true → Has n r.law b area
  pub rest : (at ≡ Within → ⊥) → busy n r.law ≡ false

module _ (n : ℕ) (files : Beginning) (faults : ℕ → ℕ → Option Fault) (log : Log) (honest : Honest files faults log) (moves : MovesExactly n files.keeps log) where
  -- the lock that a line gets
  new_lock : (t a b : ℕ) (area : Area) (r : Exact) → Grant log t a b Work area → MayExactly n files.keeps (λ x. r) (log t) → Has n (note n files.keeps r t (log t)).law b area
  new_lock t a b area r grant may = subst (λ (l : Option Line). Has n (note n files.keeps r t l).law b area) (sym grant.is) (go (busy n r.law) (is_area r.law.area area) refl)
    where
      here : MayExactly n files.keeps (λ x. r) (Some (ask_by a b (Lock Work area) Granted grant.took))
      here = subst (MayExactly n files.keeps (λ x. r)) grant.is may

      go : (some own : Bool) → is_area r.law.area area ≡ own
          → Has n (if some && not own then record r.law { second = Some area; second_held = with r.law.second_held b } else (let s = (if some then record r.law { second = if own then r.law.second else Some area } else weak.begun r.law area) in record s { held = with s.held b })) b area
      go true true f = record { below = here.0; holds = First (is_area_is r.law.area area f) (with_self r.law.held b) }
      go true false f = record { below = here.0; holds = Second refl (with_self r.law.second_held b) }
      go false own f = record { below = here.0; holds = First refl (with_self empty b) }

  -- the place after a request
  rest_asked : (at : Place) (r : Exact) (t y : ℕ) (x : ℕ) (request : Request) (told : Told) (took : Bool) → (next_place at (ask_by x y request told took) ≡ Within → ⊥)
      → busy n (weak.dropping (is_gone told) y (weak.note_ask n (in_force (opens at (Some (ask_by x y request told took))) r).law y request told)) ≡ false
  unfolding opens
  rest_asked Fresh r t y x Index told took out = busy_less n weak.fresh (weak.dropping (is_gone told) y weak.fresh) (less_dropped (is_gone told) y weak.fresh weak.fresh (less_still weak.fresh weak.fresh (record { area = refl; held = refl; second = refl; second_held = refl }))) (no_busy n)
  rest_asked Fresh r t y x request told took out = absurd (out refl)
  rest_asked Indexed r t y x request told took out = absurd (out refl)
  rest_asked Between r t y x request told took out = absurd (out refl)
  rest_asked Within r t y x request told took out = absurd (out refl)

  -- what stands in the register in force
  force_locks : (t a : ℕ) (r : Exact) (at : Place) → Own n log t a r at → (b q : ℕ) (area : Area) → Grant log q a b Work area → held log t b q ≡ true → Has n (in_force (opens at (log t)) r).law b area
  force_locks t a r at h b q area grant k = go (opens at (log t)) refl
    where
      go : (first : Bool) → opens at (log t) ≡ first → Has n (in_force first r).law b area
      go false e = h.locks b q area grant k
      go true e = absurd (true≢false (sym (has_busy n r.law b area (h.locks b q area grant k)) ∙ h.rest (opens_out at (log t) e)))

  -- a line of the actor
  own : (t a : ℕ) (r : Exact) (line : Option Line) → log t ≡ line → is_of a line ≡ true → IsBegun n files.keeps r → MayExactly n files.keeps (λ x. r) line
      → (b q : ℕ) (area : Area) → Grant log q a b Work area → held log t b q ≡ true → ends a b (log t) ≡ false → unlocks a b Work area (log t) ≡ false → Has n r.law b area → Has n (note n files.keeps r t line).law b area
  own t a r None is mine begun may b q area grant k lasts kept h = absurd (true≢false (sym mine))
  own t a r (Some (Ask x y request told took)) is mine begun may b q area grant k lasts kept h =
      let here : log t ≡ Some (ask_by a y.0 request told took) = is ∙ ap (λ (z : ℕ). Some (ask_by z y.0 request told took)) (eqb-true x.0 a mine) in
      has_dropped n (weak.note_ask n r.law y.0 request told) b y.0 (is_gone told) area
      (gone_apart files faults log honest t a b y.0 request told took here (held_joined files faults log honest t a b q Work area grant k) lasts)
      (asks n files.keeps r begun a b area h y.0 request told took may.1 (λ e. done t a y.0 request told took here e) (subst (λ (l : Option Line). unlocks a b Work area l ≡ false) here kept))
    where
      done : (t a y : ℕ) (request : Request) (told : Told) (took : Bool) → log t ≡ Some (ask_by a y request told took) → told ≡ Done → took ≡ true
      done t a y request told took at e = (
          let done_line : log t ≡ Some (ask_by a y request Done took) = at ∙ ap (λ (d : Told). Some (ask_by a y request d took)) e in
          done_took files log t a y request took (joined log t a y || opening log t a y) (faults y (suc (asked log t y))) (honest_at files faults log honest t a y request Done took done_line)
          )
  own t a r (Some (Begin x change)) is mine begun may b q area grant k lasts kept h = has_still n r.law (note n files.keeps r t (Some (Begin x change))).law b area (record { area = refl; held = refl; second = refl; second_held = refl }) h
  own t a r (Some (HealBegin x g kind)) is mine begun may b q area grant k lasts kept h = has_still n r.law (note n files.keeps r t (Some (HealBegin x g kind))).law b area (record { area = refl; held = refl; second = refl; second_held = refl }) h
  own t a r (Some (HealEnd x g kind said)) is mine begun may b q area grant k lasts kept h = absurd (true≢false (sym (has_busy n r.law b area h) ∙ may.free))
  own t a r (Some (End x said)) is mine begun may b q area grant k lasts kept h = h
  own t a r (Some (Event e)) is mine begun may b q area grant k lasts kept h = absurd (true≢false (sym mine))

  own_rest : (t a : ℕ) (e : Exact) (at : Place) (line : Option Line) → is_of a line ≡ true → MayExactly n files.keeps (λ x. in_force (opens at line) e) line → (place_after true at line ≡ Within → ⊥) → busy n (note n files.keeps (in_force (opens at line) e) t line).law ≡ false
  own_rest t a e at None mine may out = absurd (true≢false (sym mine))
  own_rest t a e at (Some (Ask x y request told took)) mine may out = rest_asked at e t y.0 x.0 request told took out
  own_rest t a e at (Some (Begin x change)) mine may out = absurd (inner_place at (Begin x change) (begin_place x change) out)
  own_rest t a e at (Some (HealBegin x g kind)) mine may out = absurd (inner_place at (HealBegin x g kind) (heal_place x g kind) out)
  own_rest t a e at (Some (HealEnd x g kind said)) mine may out = no_busy n
  own_rest t a e at (Some (End x said)) mine may out = may.free
  own_rest t a e at (Some (Event event)) mine may out = absurd (true≢false (sym mine))

  pub kept : (t a : ℕ) → Own n log t a (exact n files.keeps log t a) (place log t a)
  unfolding exact place
  kept zero a = record { locks = λ b q area grant h. absurd (omega (arith, held_past log 0 b q h)); rest = λ out. no_busy n }
  kept (suc t) a = go (kept t a) (is_of a (log t)) refl
    where
      go : Own n log t a (exact n files.keeps log t a) (place log t a) → (mine : Bool) → is_of a (log t) ≡ mine
          → Own n log (suc t) a (exact_after n files.keeps mine (opens (place log t a) (log t)) (exact n files.keeps log t a) t (log t)) (place_after mine (place log t a) (log t))
      go ih false e = record {
        locks = λ b q area grant h. elim (step_of log t b q h) [ inl w ↦ absurd (foreign b q area grant w) | inr w ↦ ih.locks b q area grant w.0 ];
        rest = ih.rest;
      }
        where
          foreign : (b q : ℕ) (area : Area) → Grant log q a b Work area → q ≡ t → ⊥
          foreign b q area grant same = true≢false (sym (ap (is_of a) (ap log (sym same) ∙ grant.is) ∙ same_self a) ∙ e)
      go ih true e = record {
        locks = λ b q area grant h. elim (step_of log t b q h) [
          | inl same ↦ new_lock t a b area (present n files.keeps log t a) (record { took = grant.took; is = ap log (sym same) ∙ grant.is }) may
          | inr w ↦ (let f = kept_freed files faults log honest t a b q Work area grant (held_past log t b q w.0) w.1 in
              own t a (present n files.keeps log t a) (log t) refl e (begun_now n files.keeps log moves t a) may b q area grant w.0 f.0 f.1 (force_locks t a (exact n files.keeps log t a) (place log t a) ih b q area grant w.0))
        ];
        rest = own_rest t a (exact n files.keeps log t a) (place log t a) (log t) e may;
      }
        where
          may : MayExactly n files.keeps (λ x. present n files.keeps log t a) (log t)
          may = same_actor n files.keeps log t a (log t) e (moves t)
