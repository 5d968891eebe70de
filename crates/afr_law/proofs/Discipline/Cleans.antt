-- The exact register stands on the looks and the Begin of its transaction.
use Rattle.afr_base.specs.declared.ids.Kind.{Kind}
use Rattle.afr_law.proofs.Discipline.Asks.{IsHealLock, heal_asked, heal_dropped}
use Rattle.afr_model_moves.specs.Cells.{fits, what_code}
use Rattle.afr_law.proofs.Discipline.Clear.{Clear, ClearOf, Started, clear_asked, clear_fresh, clear_next}
use Rattle.afr_model_moves.specs.Heal.{Gives, Goes}
use Rattle.afr_model_moves.specs.Note.{breaks, left_in_heal, left_outside}
use Rattle.afr_model_moves.specs.Register.{Exact}
use Rattle.afr_model_moves.specs.Steps.{may_heal}
use Rattle.afr_model_moves.specs.Transaction.{LiesIn, Outside}
use Rattle.afr_model_moves.specs.Rules.{begun, fits_change}
use Rattle.afr_model_moves.specs.Lines.{ask_by, begin_by, look_at}
use Rattle.afr_model_moves.specs.Past.{Log, is_gone, is_of}
use Rattle.afr_law.proofs.Discipline.Projection.{along, along_now}
use Rattle.afr_lines.specs.declared.answer.Told.{Told}
use Rattle.afr_lines.specs.declared.answer.Told.TheVariants.{Seen}
use Rattle.afr_lines.specs.declared.line.Line.{Line}
use Rattle.afr_lines.specs.declared.line.Line.TheVariants.{Ask, Begin, End, Event, HealBegin, HealEnd}
use Rattle.afr_lines.specs.declared.request.Request.{Request}
use Rattle.afr_object.specs.declared.change.Change.{Change}
use Rattle.afr_object.specs.declared.entry.View.{View}
use Rattle.std.proofs.Common.{Bool, ap, arith, false, inl, inr, refl, subst, suc, sym, true, true≢false, ℕ, ◌&&◌, ◌<◌, ◌||◌, ◌∙◌, ◌≡◌}
use Rattle.std.specs.Prelude.{None, Option, Some, if◌then◌else◌}
use Rattle.afr_model_moves.specs.Rules as weak
use Rattle.afr_model_moves.specs.Discipline.{note, exact, present, MayExactly, MayAskExactly, MovesExactly}
use Rattle.std.proofs.lemmas.Bool.{eqb-true}

-- a look that was told Seen was carried out
abbrev pub Shown : Log → Type 0
Shown log = (t a b g : ℕ) (view : View) (took : Bool) → log t ≡ Some (ask_by a b (look_at g) (Seen view) took) → took ≡ true

-- outside a heal
abbrev pub Clean : ℕ → Log → ℕ → ℕ → Exact → Type 0
Clean n log t a r = r.law.heal ≡ false → ClearOf n log t a r r.law

lies_area : (n : ℕ) (log : Log) (t a : ℕ) (change : Change) (r : Exact) → log t ≡ Some (begin_by a change) → ClearOf n log t a r r.law → (lies : LiesIn r.law.area change)
    → ((x : ℕ) (view : View) → x < n → r.views x ≡ Some view → fits_change (what_code view.what) change ≡ true) → Clear n log (suc t) a r.unlocked r.law.closed r.law.area r.views r.law.seen (suc t)
lies_area n log t a change r is c lies fits = record {
  open_still = c.open_still;
  valid = c.valid;
  looks = λ x view e. (let w = c.looks x view e in record { counted = w.counted; l = w.l; g = w.g; past = omega (arith, w.past); is = w.is; on = w.on; before = λ q k. omega (arith, w.past, k) });
  begun = λ q e. (let here : t ≡ q = omega (arith, e) in subst (λ k. Started n log a k r.law.area r.views) here (record { change = change; is = is; lies = lies; fits = fits }));
}

module _ (n : ℕ) (keeps : ℕ → Kind → Bool) (log : Log) (shown : Shown log) (lawful : MovesExactly n keeps log) where
  asked_clean : (t a b : ℕ) (request : Request) (told : Told) (took : Bool) (r : Exact) → log t ≡ Some (ask_by a b request told took) → Clean n log t a r → MayAskExactly n keeps r b request → Clean n log (suc t) a (note n keeps r t (Some (ask_by a b request told took)))
  asked_clean t a b request told took r is clean may out = go r.law.heal refl
    where
      w : (r.law.heal ≡ false) × (IsHealLock request → ⊥)
      w = heal_asked n r.law b request told (sym (heal_dropped (is_gone told) b (weak.note_ask n r.law b request told)) ∙ out)

      outside : MayAskExactly n keeps r b request → Outside n keeps r b request
      outside (inl k) = k.1
      outside (inr (Goes k)) = absurd (true≢false (sym k.inside ∙ w.0))
      outside (inr (Gives k broken free)) = absurd (true≢false (sym k ∙ w.0))

      fair : (g : ℕ) (view : View) → request ≡ look_at g → told ≡ Seen view → log t ≡ Some (ask_by a b (look_at g) (Seen view) true)
      fair g view what said = (
          let at : log t ≡ Some (ask_by a b (look_at g) (Seen view) took) = is ∙ (λ i. Some (ask_by a b (what i) (said i) took)) in
          at ∙ ap (λ k. Some (ask_by a b (look_at g) (Seen view) k)) (shown t a b g view took at)
          )

      go : (heal : Bool) → r.law.heal ≡ heal → ClearOf n log (suc t) a (if heal then record (left_in_heal n r t b request told) { possible = λ s. r.possible s && may_heal n keeps r s b request; broken = r.broken || breaks r request told } else left_outside n r b request told)
          (weak.dropping (is_gone told) b (weak.note_ask n r.law b request told))
      go true e = absurd (true≢false (sym e ∙ w.0))
      go false e = clear_asked n keeps log t a b r (clean e) request told fair e (outside may) w.1

  own_clean : (t a : ℕ) (r : Exact) (line : Option Line) → log t ≡ line → is_of a line ≡ true → Clean n log t a r → MayExactly n keeps (λ x. r) line → Clean n log (suc t) a (note n keeps r t line)
  own_clean t a r None is mine clean may = λ out. clear_next n log t a r.unlocked r.law.closed r.law.area r.views r.law.seen r.law.number (clean out)
  own_clean t a r (Some (Ask x b request told took)) is mine clean may = asked_clean t a b.0 request told took r (is ∙ ap (λ k. Some (ask_by k b.0 request told took)) (eqb-true x.0 a mine)) clean may.1
  own_clean t a r (Some (Begin x change)) is mine clean may = λ out. lies_area n log t a change r (is ∙ ap (λ k. Some (begin_by k change)) (eqb-true x.0 a mine)) (clean out) may.lies may.fits
  own_clean t a r (Some (HealBegin x g kind)) is mine clean may = λ out. absurd (true≢false (sym may.inside ∙ out))
  own_clean t a r (Some (HealEnd x g kind reply)) is mine clean may = λ out. clear_fresh n log (suc t) a
  own_clean t a r (Some (End x reply)) is mine clean may = λ out. clear_next n log t a r.unlocked r.law.closed r.law.area r.views r.law.seen r.law.number (clean out)
  own_clean t a r (Some (Event e)) is mine clean may = λ out. clear_next n log t a r.unlocked r.law.closed r.law.area r.views r.law.seen r.law.number (clean out)

  pub clean : (t a : ℕ) → Clean n log t a (exact n keeps log t a)
  clean = along n keeps log lawful (Clean n log) (λ t a out. clear_fresh n log t a) (λ t a r other c out. clear_next n log t a r.unlocked r.law.closed r.law.area r.views r.law.seen r.law.number (c out))
      (λ t a mine c may. own_clean t a (present n keeps log t a) (log t) refl mine c may)

  pub clean_now : (t a : ℕ) → Clean n log t a (present n keeps log t a)
  clean_now = along_now n keeps log lawful (Clean n log) (λ t a out. clear_fresh n log t a) (λ t a r other c out. clear_next n log t a r.unlocked r.law.closed r.law.area r.views r.law.seen r.law.number (c out))
      (λ t a mine c may. own_clean t a (present n keeps log t a) (log t) refl mine c may)
