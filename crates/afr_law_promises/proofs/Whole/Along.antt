-- What a register stands on, at each line of a log.
use Rattle.std.proofs.Common.{◌≡◌, ℕ, suc, Bool, true, false, ◌&&◌, ◌||◌, ◌⊎◌, inl, inr, refl, sym, ◌∙◌, ap, subst, arith, true≢false}
use Rattle.std.specs.Prelude.{None, Option, Some, if◌then◌else◌, ◌==◌}
use Rattle.std.proofs.lemmas.Bool.{eqb-true}
use Rattle.afr_base.specs.declared.ids.Kind.{Kind}
use Rattle.afr_object.specs.declared.change.Change.{Change}
use Rattle.afr_object.specs.declared.entry.View.{View}
use Rattle.afr_lines.specs.Places.{Place, Between, Fresh, Indexed, Within, next_place}
use Rattle.afr_lines.specs.declared.answer.Told.{Told}
use Rattle.afr_lines.specs.declared.answer.Told.TheVariants.{Seen}
use Rattle.afr_lines.specs.declared.line.Line.{Line}
use Rattle.afr_lines.specs.declared.line.Line.TheVariants.{Ask, Begin, End, Event, HealBegin, HealEnd}
use Rattle.afr_lines.specs.declared.reply.Reply.{Reply}
use Rattle.afr_lines.specs.declared.request.Request.{Request}
use Rattle.afr_model_moves.specs.Discipline.{EndsWork, MayAskExactly, MayExactly, MovesExactly, exact, in_force, note, present}
use Rattle.afr_model_moves.specs.Heal.{Gives, Goes}
use Rattle.afr_model_moves.specs.Lines.{ask_by, begin_by, look_at}
use Rattle.afr_model_moves.specs.Note.{breaks, left_in_heal, left_outside}
use Rattle.afr_model_moves.specs.Past.{Log, is_gone, is_of, opens, place}
use Rattle.afr_model_moves.specs.Register.{Exact, untouched}
use Rattle.afr_model_moves.specs.Rules as weak
use Rattle.afr_model_moves.specs.Steps.{may_heal}
use Rattle.afr_model_moves.specs.Transaction.{Outside}
use Rattle.afr_model_moves.proofs.Tests.{same_self}
use Rattle.afr_law.proofs.Discipline.Asks.{IsHealLock, heal_asked, heal_dropped}
use Rattle.afr_law.proofs.Discipline.Cleans.{Shown}
use Rattle.afr_law.proofs.Discipline.Projection.{along_now}
use Rattle.afr_law.proofs.Safety.Acks.{place_foreign}
use Rattle.afr_law_promises.proofs.Whole.Looks.{Stands, StandsOf, stands_asked, stands_new, stands_next}

-- ---- works
fresh_opens : (at : Place) (line : Option Line) → at ≡ Fresh → opens at line ≡ true
unfolding opens
fresh_opens at line e = rw e refl

foreign_open : (a : ℕ) (line : Option Line) → is_of a line ≡ false → EndsWork a line → ⊥
foreign_open a None other ends = ends
foreign_open a (Some (End x reply)) other ends = true≢false (sym (same_self a) ∙ subst (λ (k : ℕ). (k == a) ≡ false) ends other)
foreign_open a (Some (Ask x b request told took)) other ends = ends
foreign_open a (Some (Begin x change)) other ends = ends
foreign_open a (Some (HealBegin x g kind)) other ends = ends
foreign_open a (Some (HealEnd x g kind reply)) other ends = ends
foreign_open a (Some (Event e)) other ends = ends

-- after its End line it is between two works
end_place : (log : Log) (t a : ℕ) (x : ℕ) (reply : Reply) → log t ≡ Some (End (record { 0 = x }) reply) → (x == a) ≡ true → place log (suc t) a ≡ Fresh
unfolding place
end_place log t a x reply is mine = rw (is, mine) (go (place log t a))
  where
    go : (at : Place) → next_place at (End (record { 0 = x }) reply) ≡ Fresh
    go Fresh = refl
    go Indexed = refl
    go Between = refl
    go Within = refl

-- ---- lines
-- an actor is between two works, or its register outside a heal stands on lines of the present one
abbrev StandsIn : Log → ℕ → ℕ → Exact → Type 0
StandsIn log t a r = (place log t a ≡ Fresh) ⊎ (r.law.heal ≡ false → StandsOf log t a r r.law)

module _ (n : ℕ) (keeps : ℕ → Kind → Bool) (log : Log) (shown : Shown log) (moves : MovesExactly n keeps log) where
  asked_stands : (t a b : ℕ) (request : Request) (told : Told) (took : Bool) (r : Exact) → log t ≡ Some (ask_by a b request told took) → (r.law.heal ≡ false → StandsOf log t a r r.law) → MayAskExactly n keeps r b request
      → (note n keeps r t (Some (ask_by a b request told took))).law.heal ≡ false → StandsOf log (suc t) a (note n keeps r t (Some (ask_by a b request told took))) (note n keeps r t (Some (ask_by a b request told took))).law
  asked_stands t a b request told took r is was may out = go r.law.heal refl
    where
      w : (r.law.heal ≡ false) × (IsHealLock request → ⊥)
      w = heal_asked n r.law b request told (sym (heal_dropped (is_gone told) b (weak.note_ask n r.law b request told)) ∙ out)

      outside : MayAskExactly n keeps r b request → Outside n keeps r b request
      outside (inl k) = k.1
      outside (inr (Goes k)) = absurd (true≢false (sym k.inside ∙ w.0))
      outside (inr (Gives k broken free)) = absurd (true≢false (sym k ∙ w.0))

      fair : (g : ℕ) (view : View) → request ≡ look_at g → told ≡ Seen view → log t ≡ Some (ask_by a b (look_at g) (Seen view) true)
      fair g view what said = (
          let at : log t ≡ Some (ask_by a b (look_at g) (Seen view) took) = is ∙ (λ i. Some (ask_by a b (what i) (said i) took)) in
          at ∙ ap (λ k. Some (ask_by a b (look_at g) (Seen view) k)) (shown t a b g view took at)
          )

      unended : EndsWork a (log t) → ⊥
      unended ends = subst (EndsWork a) is ends

      go : (heal : Bool) → r.law.heal ≡ heal → StandsOf log (suc t) a (if heal then record (left_in_heal n r t b request told) { possible = λ s. r.possible s && may_heal n keeps r s b request; broken = r.broken || breaks r request told } else left_outside n r b request told)
          (weak.dropping (is_gone told) b (weak.note_ask n r.law b request told))
      go true e = absurd (true≢false (sym e ∙ w.0))
      go false e = stands_asked n keeps log t a b r unended (was e) request told fair e (outside may) w.1

  begun_stands : (t a : ℕ) (change : Change) (r : Exact) → log t ≡ Some (begin_by a change) → StandsOf log t a r r.law → Stands log (suc t) a r.law.area r.views r.law.pre (suc t)
  begun_stands t a change r is s = record {
    looks = now.looks;
    begun = λ q e u low high ends. (let here : u ≡ t = omega (arith, e, low, high) in unended (subst (λ (k : ℕ). EndsWork a (log k)) here ends));
    holders = s.holders;
    idle = λ none. absurd (omega (arith, none));
  }
    where
      unended : EndsWork a (log t) → ⊥
      unended ends = subst (EndsWork a) is ends

      now : StandsOf log (suc t) a r r.law
      now = stands_next log t a r.law.area r.views r.law.pre r.law.number unended s

  own_stands : (t a : ℕ) (r : Exact) (line : Option Line) → log t ≡ line → is_of a line ≡ true → (r.law.heal ≡ false → StandsOf log t a r r.law) → MayExactly n keeps (λ x. r) line → StandsIn log (suc t) a (note n keeps r t line)
  own_stands t a r None is mine was may = absurd (true≢false (sym mine))
  own_stands t a r (Some (Ask x b request told took)) is mine was may = inr (asked_stands t a b.0 request told took r (is ∙ ap (λ k. Some (ask_by k b.0 request told took)) (eqb-true x.0 a mine)) was may.1)
  own_stands t a r (Some (Begin x change)) is mine was may = inr (λ out. begun_stands t a change r (is ∙ ap (λ k. Some (begin_by k change)) (eqb-true x.0 a mine)) (was out))
  own_stands t a r (Some (HealBegin x g kind)) is mine was may = inr (λ out. absurd (true≢false (sym may.inside ∙ out)))
  own_stands t a r (Some (HealEnd x g kind reply)) is mine was may = inr (λ out. stands_new log (suc t) a None)
  own_stands t a r (Some (End x reply)) is mine was may = inl (end_place log t a x.0 reply is mine)
  own_stands t a r (Some (Event e)) is mine was may = absurd (true≢false (sym mine))

  foreign_stands : (t a : ℕ) (r : Exact) → is_of a (log t) ≡ false → StandsIn log t a r → StandsIn log (suc t) a r
  foreign_stands t a r other (inl e) = inl (place_foreign log t a other ∙ e)
  foreign_stands t a r other (inr s) = inr (λ out. stands_next log t a r.law.area r.views r.law.pre r.law.number (foreign_open a (log t) other) (s out))

  -- a work's first line finds nothing noted
  in_work : (t a : ℕ) → StandsIn log t a (present n keeps log t a) → (present n keeps log t a).law.heal ≡ false → StandsOf log t a (present n keeps log t a) (present n keeps log t a).law
  in_work t a (inr s) out = s out
  in_work t a (inl e) out = (
      let same : present n keeps log t a ≡ untouched = ap (λ (first : Bool). in_force first (exact n keeps log t a)) (fresh_opens (place log t a) (log t) e) in
      subst (λ (r : Exact). StandsOf log t a r r.law) (sym same) (stands_new log t a None)
      )

  pub stands_now : (t a : ℕ) → (present n keeps log t a).law.heal ≡ false → StandsOf log t a (present n keeps log t a) (present n keeps log t a).law
  stands_now t a = in_work t a (along_now n keeps log moves (StandsIn log) (λ t a. inr (λ out. stands_new log t a None)) (λ t a r other s. foreign_stands t a r other s)
      (λ t a mine s may. own_stands t a (present n keeps log t a) (log t) refl mine (in_work t a s) may) t a)
