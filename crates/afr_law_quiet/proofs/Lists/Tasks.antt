-- What a line has to do with its actor's task: a healer keeps to its round.
use Rattle.std.proofs.Common.{◌≡◌, ℕ, ◌≤◌, true, sym, subst, List, ◌∷◌, false, Some, true≢false}
use Rattle.std.specs.Prelude.{slice_get}
use Rattle.std.proofs.lemmas.Bool.{eqb-true}
use Rattle.afr_base.specs.declared.ids.BrickId.{BrickId}
use Rattle.afr_lines.specs.Work.{ended, is_of, work}
use Rattle.afr_lines.specs.declared.line.Line.{Line}
use Rattle.afr_lines.specs.declared.line.Line.TheVariants.{Ask, Begin, End, Event, HealBegin, HealEnd}
use Rattle.afr_plan.specs.declared.plan.Plan.{Plan}
use Rattle.afr_model.specs.Actors.{rounds_of}
use Rattle.afr_model.specs.Following.{KeepsToTask, ToCommand, ToCrawl, ToItem, ToRound}
use Rattle.afr_model.specs.HealReplies.{IsHealing}
use Rattle.afr_model.specs.Rounds.{KeepsToRound}
use Rattle.afr_law.proofs.Model.Tasks.{no_script, turn_of}
use Rattle.afr_law_quiet.proofs.Lists.Premises.{Sound}

module _ (p : Plan) (a : ℕ) (older : List Line) where
  -- the brick of a round, and that a line keeps to it
  pub record Round (line : Line) : Type 0 where
    pub healer : 17 ≤ a
    pub brick : BrickId
    pub is : slice_get (rounds_of p a) (ended a older) ≡ Some brick
    pub keeps : KeepsToRound p brick line (work a older)

  -- a healer's line keeps to its round
  pub round_of : (line : Line) → is_of a line ≡ true → Sound p (line ∷ older) → 17 ≤ a → Round line
  round_of line mine s high = go (turn_of false p a line older mine s.follows).keeps
    where
      go : KeepsToTask false p a line older → Round line
      go (ToCommand c e k) = absurd (no_script p a (ended a older) c s.clients high e)
      go (ToRound plain h b e k) = record { healer = h; brick = b; is = e; keeps = k }
      go (ToCrawl crawls who b e k) = absurd (true≢false (sym crawls))
      go (ToItem crawls h item given k) = absurd (true≢false (sym crawls))

  -- what a healer's line answers
  pub healing_of : (line : Line) → is_of a line ≡ true → Sound p (line ∷ older) → 17 ≤ a → IsHealing p.shape line (work a older)
  healing_of (Ask x y r told took) mine s high = (let same : a ≡ x.0 = sym (eqb-true x.0 a mine) in subst (λ (k : ℕ). IsHealing p.shape (Ask x y r told took) (work k older)) (sym same) (s.replied.0.round (subst (λ (k : ℕ). 17 ≤ k) same high)))
  healing_of (Begin x change) mine s high = tt
  healing_of (HealBegin x g kind) mine s high = tt
  healing_of (End x said) mine s high = (let same : a ≡ x.0 = sym (eqb-true x.0 a mine) in subst (λ (k : ℕ). IsHealing p.shape (End x said) (work k older)) (sym same) (s.replied.0.round (subst (λ (k : ℕ). 17 ≤ k) same high)))
  healing_of (HealEnd x g kind said) mine s high = (let same : a ≡ x.0 = sym (eqb-true x.0 a mine) in subst (λ (k : ℕ). IsHealing p.shape (HealEnd x g kind said) (work k older)) (sym same) (s.replied.0.round (subst (λ (k : ℕ). 17 ≤ k) same high)))
  healing_of (Event event) mine s high = absurd (true≢false (sym mine))
