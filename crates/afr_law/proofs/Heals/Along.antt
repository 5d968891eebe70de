-- What holds of a heal from its first lock on, and goes on along its lines, holds of each of its registers.
use Rattle.afr_base.specs.declared.ids.Kind.{Kind}
use Rattle.afr_law.proofs.Discipline.Asks.{IsHealLock, kept, kept_dropped}
use Rattle.afr_model_moves.specs.Discipline.{MayAskExactly, MayExactly, MovesExactly, note, present}
use Rattle.afr_model_moves.specs.Heal.{Gives, Goes, InHeal, MayHeal, MayHealBegin}
use Rattle.afr_model_moves.specs.Note.{breaks, left_in_heal, left_outside, stopping}
use Rattle.afr_model_moves.specs.Register.{Exact, untouched}
use Rattle.afr_model_moves.specs.Steps.{may_heal}
use Rattle.afr_model_moves.specs.Transaction.{MayOpen, Outside}
use Rattle.afr_law.proofs.Heals.Opening.{opens_here}
use Rattle.afr_model_moves.specs.Rules.{opened, Register, heal_area}
use Rattle.afr_model_moves.specs.Lines.{ask_by, heal_begin_by}
use Rattle.afr_law.proofs.Discipline.Projection.{tally_at, together_now}
use Rattle.afr_model_moves.specs.Tally.{Tally, blank, in_tally, note_tally, tally}
use Rattle.afr_law.proofs.Discipline.Untouched.{still_now}
use Rattle.afr_lines.specs.declared.answer.Told.{Told}
use Rattle.afr_lines.specs.declared.line.Line.{Line}
use Rattle.afr_lines.specs.declared.line.Line.TheVariants.{Ask, Begin, End, Event, HealBegin, HealEnd}
use Rattle.afr_lines.specs.declared.request.Area.{Area}
use Rattle.afr_lines.specs.declared.request.Request.{Request}
use Rattle.afr_lines.specs.declared.request.Request.TheVariants.{Lock}
use Rattle.afr_lines.specs.declared.lock.Domain.TheVariants.{Heal, Work}
use Rattle.std.proofs.Common.{Bool, ap, false, inl, inr, refl, subst, suc, sym, true, true≢false, ℕ, ◌&&◌, ◌<◌, ◌||◌, ◌∙◌, ◌≡◌}
use Rattle.std.specs.Prelude.{None, Option, Some, if◌then◌else◌}
use Rattle.afr_model_moves.specs.Rules as weak
use Rattle.afr_model_moves.specs.Past.{Log, is_of, is_gone, last}
use Rattle.std.proofs.lemmas.Bool.{or_parts, eqb-true}

-- what a line of a heal leaves of its register
abbrev pub healed_by : ℕ → (ℕ → Kind → Bool) → Exact → ℕ → ℕ → ℕ → Request → Told → Bool → Exact
healed_by n keeps r t a b request told took =
    stopping n keeps (record (left_in_heal n r t b request told) {
      possible = λ s. r.possible s && may_heal n keeps r s b request;
      broken = r.broken || breaks r request told;
      law = weak.note n r.law t (Some (ask_by a b request told took));
    })

-- and the first line of one
abbrev pub opened_by : ℕ → (ℕ → Kind → Bool) → ℕ → ℕ → ℕ → Area → Told → Bool → Exact
opened_by n keeps t a b area told took = note n keeps untouched t (Some (ask_by a b (Lock Heal area) told took))

pub healed_is : (n : ℕ) (keeps : ℕ → Kind → Bool) (r : Exact) (t a b : ℕ) (request : Request) (told : Told) (took : Bool) → r.law.heal ≡ true
    → healed_by n keeps r t a b request told took ≡ note n keeps r t (Some (ask_by a b request told took))
healed_is n keeps r t a b request told took e = sym (ap (λ (heal : Bool). stopping n keeps (record (if heal
    then record (left_in_heal n r t b request told) { possible = λ s. r.possible s && may_heal n keeps r s b request; broken = r.broken || breaks r request told }
    else left_outside n r b request told) { law = weak.note n r.law t (Some (ask_by a b request told took)) })) e)

module _ (n : ℕ) (keeps : ℕ → Kind → Bool) (log : Log) (moves : MovesExactly n keeps log) (G : ℕ → ℕ → Exact → Tally → Type 0)
    (foreign : (t a : ℕ) (r : Exact) (k : Tally) → G t a r k → G (suc t) a r k)
    (first : (t a b : ℕ) (g : ℕ) (told : Told) (took : Bool) → log t ≡ Some (ask_by a b (Lock Heal (heal_area g)) told took) → b < n → G (suc t) a (opened_by n keeps t a b (heal_area g) told took) blank)
    (ask : (t a b : ℕ) (request : Request) (told : Told) (took : Bool) → log t ≡ Some (ask_by a b request told took) → b < n → MayHeal n keeps (present n keeps log t a) b request
    → breaks (present n keeps log t a) request told ≡ false → G t a (present n keeps log t a) (tally_at log t a)
    → G (suc t) a (healed_by n keeps (present n keeps log t a) t a b request told took) (note_tally (last log t a) (tally_at log t a) (Some (ask_by a b request told took))))
    (begin : (t a g : ℕ) (kind : Kind) → log t ≡ Some (heal_begin_by a g kind) → MayHealBegin n (present n keeps log t a) g kind → G t a (present n keeps log t a) (tally_at log t a)
    → G (suc t) a (note n keeps (present n keeps log t a) t (Some (heal_begin_by a g kind))) (note_tally (last log t a) (tally_at log t a) (Some (heal_begin_by a g kind)))) where
  abbrev pub Healing : ℕ → ℕ → Exact → Tally → Type 0
  Healing t a r k = r.law.heal ≡ true → r.broken ≡ false → G t a r k

  in_heal : (t a b : ℕ) (request : Request) (told : Told) (took : Bool) → log t ≡ Some (ask_by a b request told took) → b < n → (present n keeps log t a).law.heal ≡ true → InHeal n keeps (present n keeps log t a) b request
      → Healing t a (present n keeps log t a) (tally_at log t a)
      → Healing (suc t) a (healed_by n keeps (present n keeps log t a) t a b request told took) (note_tally (last log t a) (tally_at log t a) (Some (ask_by a b request told took)))
  in_heal t a b request told took is below inside (Goes m) p on whole = ask t a b request told took is below m (or_parts _ _ (or_parts _ _ whole).0).1 (p inside m.whole)
  in_heal t a b request told took is below inside (Gives i broken k) p on whole = absurd (true≢false (sym broken ∙ (or_parts _ _ (or_parts _ _ whole).0).0))

  lock_at : (request : Request) → IsHealLock request → (area : Area) × (request ≡ Lock Heal area)
  lock_at (Lock Heal area) h = (area, refl)
  lock_at _ h = absurd h

  opens_heal : (t a b : ℕ) (area : Area) (told : Told) (took : Bool) → log t ≡ Some (ask_by a b (Lock Heal area) told took) → b < n → MayOpen (present n keeps log t a) b area
      → G (suc t) a (note n keeps (present n keeps log t a) t (Some (ask_by a b (Lock Heal area) told took))) (tally_at log t a)
  opens_heal t a b area told took is below may = (
      let untouched_now = still_now n keeps log moves t a may.first in
      let opened : weak.opened log t a ≡ true = opens_here n keeps log moves t a b area told took is may.first in
      let blank_now : tally_at log t a ≡ blank = ap (λ (f : Bool). in_tally f (tally log t a)) opened in
      let line : Some (ask_by a b (Lock Heal area) told took) ≡ Some (ask_by a b (Lock Heal (heal_area may.g)) told took) = ap (λ (x : Area). Some (ask_by a b (Lock Heal x) told took)) may.range in
      subst (λ (k : Tally). G (suc t) a (note n keeps (present n keeps log t a) t (Some (ask_by a b (Lock Heal area) told took))) k) (sym blank_now)
      (subst (λ (r : Exact). G (suc t) a (note n keeps r t (Some (ask_by a b (Lock Heal area) told took))) blank) (sym untouched_now)
      (subst (λ (l : Option Line). G (suc t) a (note n keeps untouched t l) blank) (sym line) (first t a b may.g told took (is ∙ line) below)))
      )

  asked : (t a b : ℕ) (request : Request) (told : Told) (took : Bool) → log t ≡ Some (ask_by a b request told took) → b < n → MayAskExactly n keeps (present n keeps log t a) b request
      → Healing t a (present n keeps log t a) (tally_at log t a)
      → Healing (suc t) a (note n keeps (present n keeps log t a) t (Some (ask_by a b request told took))) (note_tally (last log t a) (tally_at log t a) (Some (ask_by a b request told took)))
  asked t a b request told took is below (inr k) p = (
      let inside : (present n keeps log t a).law.heal ≡ true = heal_in k in
      subst (λ (r : Exact). Healing (suc t) a r (note_tally (last log t a) (tally_at log t a) (Some (ask_by a b request told took)))) (healed_is n keeps (present n keeps log t a) t a b request told took inside)
      (in_heal t a b request told took is below inside k p)
      )
    where
      heal_in : InHeal n keeps (present n keeps log t a) b request → (present n keeps log t a).law.heal ≡ true
      heal_in (Goes m) = m.inside
      heal_in (Gives i broken k) = i
  asked t a b request told took is below (inl k) p = λ on whole. elim (kept_dropped request w (weak.note_ask n w b request told) (is_gone told) b (kept n w b request told)).heal [
    | inl same ↦ absurd (true≢false (sym on ∙ same ∙ k.0))
    | inr lock ↦ opens_lock request told is k.1 (lock_at request lock.1)
  ]
    where
      w : Register
      w = (present n keeps log t a).law

      opens_lock : (q : Request) (d : Told) → log t ≡ Some (ask_by a b q d took) → Outside n keeps (present n keeps log t a) b q → (area : Area) × (q ≡ Lock Heal area)
          → G (suc t) a (note n keeps (present n keeps log t a) t (Some (ask_by a b q d took))) (note_tally (last log t a) (tally_at log t a) (Some (ask_by a b q d took)))
      opens_lock (Lock Heal area) d at may lock = opens_heal t a b area d took at below may
      opens_lock (Lock Work area) d at may lock = absurd (cc lock.1)
      opens_lock _ d at may lock = absurd (cc lock.1)

  own_line : (t a : ℕ) (line : Option Line) → log t ≡ line → is_of a line ≡ true → Healing t a (present n keeps log t a) (tally_at log t a) → MayExactly n keeps (λ x. present n keeps log t a) line
      → Healing (suc t) a (note n keeps (present n keeps log t a) t line) (note_tally (last log t a) (tally_at log t a) line)
  own_line t a None is mine p may = absurd (true≢false (sym mine))
  own_line t a (Some (Ask x b request told took)) is mine p may = asked t a b.0 request told took (is ∙ ap (λ k. Some (ask_by k b.0 request told took)) (eqb-true x.0 a mine)) may.0 may.1 p
  own_line t a (Some (Begin x change)) is mine p may = λ on whole. absurd (true≢false (sym on ∙ may.outside))
  own_line t a (Some (HealBegin x g kind)) is mine p may = λ on whole. begin t a g.0 kind (is ∙ ap (λ k. Some (heal_begin_by k g.0 kind)) (eqb-true x.0 a mine)) may (p may.inside may.whole)
  own_line t a (Some (HealEnd x g kind reply)) is mine p may = λ on whole. absurd (true≢false (sym on))
  own_line t a (Some (End x reply)) is mine p may = λ on whole. absurd (true≢false (sym on ∙ may.outside))
  own_line t a (Some (Event e)) is mine p may = absurd (true≢false (sym mine))

  pub healing_now : (t a : ℕ) → Healing t a (present n keeps log t a) (tally_at log t a)
  healing_now = together_now n keeps log moves Healing (λ t a on whole. absurd (true≢false (sym on))) (λ t a r k other p on whole. foreign t a r k (p on whole))
      (λ t a mine p may. own_line t a (log t) refl mine p may)
