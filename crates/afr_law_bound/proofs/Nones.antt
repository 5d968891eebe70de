-- Where no second area was named, none is held.
use Rattle.std.proofs.Common.{◌≡◌, ℕ, ◌&&◌, not, Bool, true, false, refl, sym, ◌∙◌, ap, Option, Some, None, true≢false}
use Rattle.std.specs.Prelude.{if◌then◌else◌}
use Rattle.afr_base.specs.declared.ids.Kind.{Kind}
use Rattle.afr_lines.specs.declared.answer.Told.TheVariants.{Done, Granted}
use Rattle.afr_lines.specs.declared.answer.Told.{Told}
use Rattle.afr_lines.specs.declared.line.Line.TheVariants.{Ask, Begin, End, Event, HealBegin, HealEnd}
use Rattle.afr_lines.specs.declared.line.Line.{Line}
use Rattle.afr_lines.specs.declared.request.Area.{Area}
use Rattle.afr_lines.specs.declared.request.Request.TheVariants.{Lock, Unlock}
use Rattle.afr_lines.specs.declared.request.Request.{Request}
use Rattle.afr_model_moves.proofs.Tests.{without_in}
use Rattle.afr_model_moves.specs.Discipline.{MovesExactly, note, present}
use Rattle.afr_model_moves.specs.Past.{Log, is_gone}
use Rattle.afr_model_moves.specs.Register.{Exact}
use Rattle.afr_model_moves.specs.Rules as weak
use Rattle.afr_model_moves.specs.Rules.{Register, begun, busy, is_area}
use Rattle.afr_model_moves.specs.Sets.{with, without}
use Rattle.afr_lines.specs.declared.lock.Domain.TheVariants.{Heal, Work}
use Rattle.std.proofs.lemmas.Bool.{false_from_ne_true}
use Rattle.afr_law.proofs.Discipline.Projection.{along_now}
use Rattle.afr_law_bound.proofs.Fields.{Still, still}

-- no second area, and none held
abbrev pub NoSecond : Register → Type 0
NoSecond w = w.second ≡ None → (c : ℕ) → w.second_held c ≡ false

still_none : (w s : Register) → Still w s → NoSecond w → NoSecond s
still_none w s k h = λ none c. ap (λ (f : ℕ → Bool). f c) k.second_held ∙ h (sym k.second ∙ none) c

dropped_none : (gone : Bool) (b : ℕ) (w : Register) → NoSecond w → NoSecond (weak.dropping gone b w)
dropped_none false b w h = h
dropped_none true b w h = λ none c. false_from_ne_true (without w.second_held b c) (λ e. true≢false (sym (without_in w.second_held b c e) ∙ h none c))

locking_none : (n : ℕ) (w : Register) (area : Area) → NoSecond w → NoSecond (weak.locking n w area)
locking_none n w area h = go (busy n w) (is_area w.area area)
  where
    go : (some own : Bool) → NoSecond (if some then record w { second = if own then w.second else Some area } else begun w area)
    go true true = h
    go true false = λ none c. absurd (cc none)
    go false own = λ none c. refl

granting_none : (n : ℕ) (w : Register) (area : Area) (b : ℕ) → NoSecond w → NoSecond (weak.granting n w area b)
granting_none n w area b h = go (busy n w && not (is_area w.area area))
  where
    go : (other : Bool) → NoSecond (if other then record w { second = Some area; second_held = with w.second_held b } else (let s = weak.locking n w area in record s { held = with s.held b }))
    go true = λ none c. absurd (cc none)
    go false = locking_none n w area h

unlocked_none : (n : ℕ) (w : Register) (b : ℕ) (area : Area) (told : Told) → NoSecond w → NoSecond (weak.note_ask n w b (Unlock Work area) told)
unlocked_none n w b area Done h = go (is_area w.area area)
  where
    freed : (own : Bool) (c : ℕ) → w.second_held c ≡ false → (if own then without w.second_held b else w.second_held) c ≡ false
    freed true c k = false_from_ne_true (without w.second_held b c) (λ e. true≢false (sym (without_in w.second_held b c e) ∙ k))
    freed false c k = k

    go : (own : Bool) → NoSecond (if own then record w { closed = with w.closed b; held = without w.held b } else record w { second_held = weak.second_freed w area b })
    go true = h
    go false = λ none c. freed (is_area w.second area) c (h none c)
unlocked_none n w b area _ h = go (is_area w.area area)
  where
    go : (own : Bool) → NoSecond (if own then record w { closed = with w.closed b } else w)
    go true = h
    go false = h

asked_none : (n : ℕ) (w : Register) (b : ℕ) (request : Request) (told : Told) → NoSecond w → NoSecond (weak.note_ask n w b request told)
asked_none n w b (Lock Work area) Granted h = granting_none n w area b h
asked_none n w b (Lock Work area) _ h = locking_none n w area h
asked_none n w b (Unlock Work area) told h = unlocked_none n w b area told h
asked_none n w b (Lock Heal area) told h = still_none w (weak.note_ask n w b (Lock Heal area) told) (still n w b (Lock Heal area) told tt) h
asked_none n w b (Unlock Heal area) told h = still_none w (weak.note_ask n w b (Unlock Heal area) told) (still n w b (Unlock Heal area) told tt) h
asked_none n w b request told h = still_none w (weak.note_ask n w b request told) (still n w b request told tt) h

module _ (n : ℕ) (keeps : ℕ → Kind → Bool) where
  own : (t : ℕ) (r : Exact) (line : Option Line) → NoSecond r.law → NoSecond (note n keeps r t line).law
  own t r None h = h
  own t r (Some (Ask x b request told took)) h = dropped_none (is_gone told) b.0 (weak.note_ask n r.law b.0 request told) (asked_none n r.law b.0 request told h)
  own t r (Some (Begin x change)) h = h
  own t r (Some (HealBegin x g kind)) h = h
  own t r (Some (HealEnd x g kind said)) h = λ none c. refl
  own t r (Some (End x said)) h = h
  own t r (Some (Event event)) h = h

  -- so it is with each register of a lawful log
  pub nones_now : (log : Log) (moves : MovesExactly n keeps log) (t a : ℕ) → NoSecond (present n keeps log t a).law
  nones_now log moves t a = along_now n keeps log moves (λ t a r. NoSecond r.law) (λ t a none c. refl) (λ t a r foreign h. h) (λ t a mine h may. own t (present n keeps log t a) (log t) h) t a
