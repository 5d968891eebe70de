-- After an undisturbed round each actor is dead or between works.
use Rattle.std.proofs.Common.{◌≡◌, ◌⊎◌, ℕ, ◌<◌, ◌==◌, ◌||◌, Bool, true, false, inl, inr, refl, sym, ◌∙◌, subst, List, [], ◌∷◌, Some, length, true≢false}
use Rattle.std.specs.Prelude.{slice_get}
use Rattle.std.proofs.lemmas.Bool.{eqb-true}
use Rattle.afr_model_moves.proofs.Tests.{same_self}
use Rattle.afr_base.specs.declared.ids.BrickId.{BrickId}
use Rattle.afr_lines.specs.Work.{is_killed, is_of, kills, work}
use Rattle.afr_lines.specs.declared.line.Line.{Line}
use Rattle.afr_lines.specs.declared.line.Line.TheVariants.{Ask, Begin, HealBegin, End, HealEnd, Event}
use Rattle.afr_plan.specs.declared.plan.Plan.{Plan}
use Rattle.afr_model.specs.Safe.{log_before}
use Rattle.afr_law_quiet.proofs.Copies.Stretch.{IsTail, Stretch, before_tail, stretch, tail_short}
use Rattle.afr_law_passes.specs.Converged.{AreRounds, EndsRound}
use Rattle.afr_law_passes.specs.Reached.Reached.{IsPass}
use Rattle.afr_law_passes.specs.Rolling.Rolling.{AreIdle}

apart : (y a x : ℕ) → (y == a) ≡ true → (x ≡ a → ⊥) → (y == x) ≡ false
apart y a x mine other = go (y == x) refl
  where
    go : (b : Bool) → (y == x) ≡ b → b ≡ false
    go true e = absurd (other (sym (eqb-true y x e) ∙ eqb-true y a mine))
    go false e = refl

-- a line is of one actor
not_mine : (x a : ℕ) (line : Line) → is_of a line ≡ true → (x ≡ a → ⊥) → is_of x line ≡ false
not_mine x a (Ask y b r told took) mine other = apart y.0 a x mine other
not_mine x a (Begin y change) mine other = apart y.0 a x mine other
not_mine x a (HealBegin y g kind) mine other = apart y.0 a x mine other
not_mine x a (End y said) mine other = apart y.0 a x mine other
not_mine x a (HealEnd y g kind said) mine other = apart y.0 a x mine other
not_mine x a (Event e) mine other = absurd (true≢false (sym mine))

module _ (x a : ℕ) (other : x ≡ a → ⊥) (then_ : List Line) where
  -- another actor does nothing in the round
  work_over : (cur : List Line) → IsTail then_ cur → Stretch a (length then_) cur → work x then_ ≡ [] → work x cur ≡ []
  work_over [] tail st h = refl
  work_over (line ∷ older) (inl e) st h = subst (λ (l : List Line). work x l ≡ []) e h
  work_over (line ∷ older) (inr t) st h = rw (not_mine x a line (st.0 (tail_short then_ older t)).mine other) (work_over older t st.1 h)

  -- and the dead stay dead
  killed_over : (cur : List Line) → IsTail then_ cur → is_killed x then_ ≡ true → is_killed x cur ≡ true
  killed_over [] tail h = subst (λ (l : List Line). is_killed x l ≡ true) tail h
  killed_over (line ∷ older) (inl e) h = subst (λ (l : List Line). is_killed x l ≡ true) e h
  killed_over (line ∷ older) (inr t) h = rw (killed_over older t h) (go (kills x line))
    where
      go : (b : Bool) → (b || true) ≡ true
      go true = refl
      go false = refl

idle_round : (p : Plan) (b : BrickId) (log : List Line) → EndsRound p b log → AreIdle p log
idle_round p b log r x actor = subst (λ (l : List Line). (is_killed x l ≡ true) ⊎ (work x l ≡ [])) (sym r.last) (go (r.healer.0 == x) refl)
  where
    then_ : List Line
    then_ = log_before (work r.healer.0 r.older) r.older

    tail : IsTail then_ r.older
    tail = before_tail r.healer.0 r.older

    lines : Stretch r.healer.0 (length then_) r.older
    lines = stretch r.healer.0 r.older r.quiet.together r.quiet.unfailed

    unlike : (y z : ℕ) → (z == y) ≡ false → y ≡ z → ⊥
    unlike y z e same = true≢false (sym (same_self z) ∙ subst (λ (k : ℕ). (z == k) ≡ false) same e)

    go : (same : Bool) → (r.healer.0 == x) ≡ same → (is_killed x (End r.healer r.said ∷ r.older) ≡ true) ⊎ (work x (End r.healer r.said ∷ r.older) ≡ [])
    go true e = inr (rw e refl)
    go false e = elim (r.quiet.alone x actor (unlike x r.healer.0 e)) [
      | inl dead ↦ inl (killed_over x r.healer.0 (unlike x r.healer.0 e) then_ r.older tail dead)
      | inr none ↦ inr (rw e (work_over x r.healer.0 (unlike x r.healer.0 e) then_ r.older tail lines none))
    ]

-- so it is after a pass
pub idle_pass : (p : Plan) → 0 < p.shape.n → (start log : List Line) → IsPass p start log → AreIdle p log
idle_pass p some start log pass = go pass.bricks pass.rounds (pass.all 0 some)
  where
    go : (bricks : List BrickId) → AreRounds p start bricks log → ((i : ℕ) × (slice_get bricks i ≡ Some (record { 0 = 0 }))) → AreIdle p log
    go [] rounds first = absurd (cc first.1)
    go (b ∷ more) rounds first = idle_round p b log rounds.0
