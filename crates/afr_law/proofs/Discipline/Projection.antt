-- The law's register is a part of the exact one, and what goes on along the lines of an actor holds of each exact register.
use Rattle.afr_base.specs.declared.ids.Kind.{Kind}
use Rattle.afr_model_moves.specs.Register.{Exact, Untouched, untouched}
use Rattle.afr_model_moves.specs.Lines.{is_ok}
use Rattle.afr_model_moves.specs.Past.{Log, is_of, last, opens, place}
use Rattle.afr_model_moves.specs.Tally.{Tally, blank, in_tally, note_tally, tally, tally_after}
use Rattle.afr_lines.specs.declared.line.Line.{Line}
use Rattle.afr_lines.specs.declared.line.Line.TheVariants.{Ask, Begin, End, Event, HealBegin, HealEnd}
use Rattle.std.proofs.Common.{Bool, ap, false, refl, subst, suc, true, zero, ℕ, ◌∙◌, ◌≡◌}
use Rattle.std.specs.Prelude.{None, Option, Some}
use Rattle.afr_model_moves.specs.Rules as weak
use Rattle.afr_model_moves.specs.Rules.{Register}
use Rattle.afr_model_moves.specs.Discipline.{note, in_force, exact_after, exact, present, MayExactly, MayAskExactly, MovesExactly}
use Rattle.afr_model_moves.specs.Transaction.{MayBegin, MayEnd}
use Rattle.afr_model_moves.specs.Heal.{MayHealBegin, MayHealEnd}
use Rattle.std.proofs.lemmas.Bool.{eqb-true}

-- the law's register after a line is what the law notes
note_law : (n : ℕ) (keeps : ℕ → Kind → Bool) (r : Exact) (t : ℕ) (line : Option Line) → (note n keeps r t line).law ≡ weak.note n r.law t line
note_law n keeps r t None = refl
note_law n keeps r t (Some (Ask a b request told took)) = refl
note_law n keeps r t (Some (Begin a change)) = refl
note_law n keeps r t (Some (HealBegin a g kind)) = refl
note_law n keeps r t (Some (HealEnd a g kind reply)) = refl
note_law n keeps r t (Some (End a reply)) = refl
note_law n keeps r t (Some (Event e)) = refl

pub force_law : (first : Bool) (r : Exact) → (in_force first r).law ≡ weak.in_force first r.law
force_law true r = refl
force_law false r = refl

after_law : (n : ℕ) (keeps : ℕ → Kind → Bool) (mine first : Bool) (r : Exact) (t : ℕ) (line : Option Line) → (exact_after n keeps mine first r t line).law ≡ weak.register_after n mine first r.law t line
after_law n keeps false first r t line = refl
after_law n keeps true first r t line = note_law n keeps (in_force first r) t line ∙ ap (λ (w : Register). weak.note n w t line) (force_law first r)

pub projection : (n : ℕ) (keeps : ℕ → Kind → Bool) (log : Log) (t a : ℕ) → (exact n keeps log t a).law ≡ weak.register n log t a
unfolding exact weak.register
projection n keeps log zero a = refl
projection n keeps log (suc t) a =
    after_law n keeps (is_of a (log t)) (opens (place log t a) (log t)) (exact n keeps log t a) t (log t)
    ∙ ap (λ (w : Register). weak.register_after n (is_of a (log t)) (opens (place log t a) (log t)) w t (log t)) (projection n keeps log t a)

pub present_law : (n : ℕ) (keeps : ℕ → Kind → Bool) (log : Log) (t a : ℕ) → (present n keeps log t a).law ≡ weak.present n log t a
present_law n keeps log t a = force_law (weak.opened log t a) (exact n keeps log t a) ∙ ap (λ (w : Register). weak.in_force (weak.opened log t a) w) (projection n keeps log t a)

module _ (n : ℕ) (keeps : ℕ → Kind → Bool) (log : Log) where
  -- a line of the actor is a move of its register
  pub same_actor : (t a : ℕ) (line : Option Line) → is_of a line ≡ true → MayExactly n keeps (present n keeps log t) line → MayExactly n keeps (λ x. present n keeps log t a) line
  same_actor t a None mine may = may
  same_actor t a (Some (Ask x b request told took)) mine may = (may.0, subst (λ k. MayAskExactly n keeps (present n keeps log t k) b.0 request) (eqb-true x.0 a mine) may.1)
  same_actor t a (Some (Begin x change)) mine may = subst (λ k. MayBegin n keeps (present n keeps log t k) change) (eqb-true x.0 a mine) may
  same_actor t a (Some (HealBegin x g kind)) mine may = subst (λ k. MayHealBegin n (present n keeps log t k) g.0 kind) (eqb-true x.0 a mine) may
  same_actor t a (Some (End x reply)) mine may = subst (λ k. MayEnd n (present n keeps log t k) (is_ok reply)) (eqb-true x.0 a mine) may
  same_actor t a (Some (HealEnd x g kind reply)) mine may = subst (λ k. MayHealEnd n (present n keeps log t k)) (eqb-true x.0 a mine) may
  same_actor t a (Some (Event e)) mine may = may

module _ (n : ℕ) (keeps : ℕ → Kind → Bool) (log : Log) (moves : MovesExactly n keeps log) (P : ℕ → ℕ → Exact → Type 0) (start : (t a : ℕ) → P t a untouched)
    (foreign : (t a : ℕ) (r : Exact) → is_of a (log t) ≡ false → P t a r → P (suc t) a r)
    (own : (t a : ℕ) → is_of a (log t) ≡ true → P t a (present n keeps log t a) → MayExactly n keeps (λ x. present n keeps log t a) (log t) → P (suc t) a (note n keeps (present n keeps log t a) t (log t))) where
  forced : (first : Bool) (t a : ℕ) (r : Exact) → P t a r → P t a (in_force first r)
  forced true t a r p = start t a
  forced false t a r p = p

  -- what holds of an untouched register, and goes on along the lines, holds of each register
  pub along : (t a : ℕ) → P t a (exact n keeps log t a)
  unfolding exact
  along zero a = start zero a
  along (suc t) a = go (along t a) (is_of a (log t)) refl
    where
      go : P t a (exact n keeps log t a) → (mine : Bool) → is_of a (log t) ≡ mine → P (suc t) a (exact_after n keeps mine (opens (place log t a) (log t)) (exact n keeps log t a) t (log t))
      go p false e = foreign t a (exact n keeps log t a) e p
      go p true e = own t a e (forced (opens (place log t a) (log t)) t a (exact n keeps log t a) p) (same_actor n keeps log t a (log t) e (moves t))

  -- and of each that is in force
  pub along_now : (t a : ℕ) → P t a (present n keeps log t a)
  along_now t a = forced (weak.opened log t a) t a (exact n keeps log t a) (along t a)

-- the tally in force at the line at t
abbrev pub tally_at : Log → ℕ → ℕ → Tally
tally_at log t a = in_tally (weak.opened log t a) (tally log t a)

module _ (n : ℕ) (keeps : ℕ → Kind → Bool) (log : Log) (moves : MovesExactly n keeps log) (P : ℕ → ℕ → Exact → Tally → Type 0) (start : (t a : ℕ) → P t a untouched blank)
    (foreign : (t a : ℕ) (r : Exact) (k : Tally) → is_of a (log t) ≡ false → P t a r k → P (suc t) a r k)
    (own : (t a : ℕ) → is_of a (log t) ≡ true → P t a (present n keeps log t a) (tally_at log t a) → MayExactly n keeps (λ x. present n keeps log t a) (log t)
    → P (suc t) a (note n keeps (present n keeps log t a) t (log t)) (note_tally (last log t a) (tally_at log t a) (log t))) where
  both_forced : (first : Bool) (t a : ℕ) (r : Exact) (k : Tally) → P t a r k → P t a (in_force first r) (in_tally first k)
  both_forced true t a r k p = start t a
  both_forced false t a r k p = p

  -- the same of a register and its tally
  pub together : (t a : ℕ) → P t a (exact n keeps log t a) (tally log t a)
  unfolding exact tally
  together zero a = start zero a
  together (suc t) a = go (together t a) (is_of a (log t)) refl
    where
      go : P t a (exact n keeps log t a) (tally log t a) → (mine : Bool) → is_of a (log t) ≡ mine
          → P (suc t) a (exact_after n keeps mine (opens (place log t a) (log t)) (exact n keeps log t a) t (log t)) (tally_after mine (opens (place log t a) (log t)) (tally log t a) (last log t a) (log t))
      go p false e = foreign t a (exact n keeps log t a) (tally log t a) e p
      go p true e = own t a e (both_forced (opens (place log t a) (log t)) t a (exact n keeps log t a) (tally log t a) p) (same_actor n keeps log t a (log t) e (moves t))

  pub together_now : (t a : ℕ) → P t a (present n keeps log t a) (tally_at log t a)
  together_now t a = both_forced (weak.opened log t a) t a (exact n keeps log t a) (tally log t a) (together t a)

-- where a line stands within a work or a heal, the tally is the one of the lines before
pub goes_tally : (n : ℕ) (keeps : ℕ → Kind → Bool) (log : Log) (t a : ℕ) → ((present n keeps log t a).step ≡ Untouched → ⊥) → tally_at log t a ≡ tally log t a
goes_tally n keeps log t a some = go (weak.opened log t a) some
  where
    go : (first : Bool) → ((in_force first (exact n keeps log t a)).step ≡ Untouched → ⊥) → in_tally first (tally log t a) ≡ tally log t a
    go true h = absurd (h refl)
    go false h = refl
