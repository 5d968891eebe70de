-- What holds at the beginning of a round, and goes on along its lines, holds of the register of each of its moments.
use Rattle.std.proofs.Common.{◌≡◌, ℕ, suc, ◌≤◌, Bool, true, false, inl, inr, refl, sym, ◌∙◌, ap, subst, arith, List, [], ◌∷◌, length, Some, Option, true≢false}
use Rattle.afr_base.specs.declared.ids.Kind.{Kind}
use Rattle.afr_lines.specs.Log.{EveryPrefix}
use Rattle.afr_lines.specs.Places.{Place}
use Rattle.afr_lines.specs.Work.{is_of, work}
use Rattle.afr_lines.specs.declared.line.Line.{Line}
use Rattle.afr_model.specs.Healing.{heal_by}
use Rattle.afr_model_moves.specs.Discipline.{MayExactly, MovesExactly, exact, exact_after, in_force, note, present}
use Rattle.afr_model_moves.specs.Past.{Log, opens, place}
use Rattle.afr_model_moves.specs.Past as position
use Rattle.afr_model_moves.specs.Register.{Exact, untouched}
use Rattle.afr_law.proofs.Discipline.Projection.{same_actor}
use Rattle.afr_model_moves.proofs.ByPosition.{IsPast}
use Rattle.afr_model_moves.proofs.Places.{of_same, place_is}
use Rattle.afr_law_quiet.proofs.Copies.Stretch.{Calm, Stretch, no_heal}
use Rattle.std.proofs.lemmas.Bool.{cases_lt}

-- a line that begins a work or a heal has no lines of its heal before it
no_lines : (L : Log) (a : ℕ) (older : List Line) (line : Option Line) → IsPast L older → opens (place L (length older) a) line ≡ true → heal_by (work a older) ≡ []
unfolding opens
no_lines L a older line past e = elim (no_heal a older) [
  | inr none ↦ none
  | inl within ↦ absurd (true≢false (sym (sym (ap (λ (k : Place). opens k line) (place_is L a older past ∙ within)) ∙ e)))
]

module _ (n : ℕ) (keeps : ℕ → Kind → Bool) (L : Log) (moves : MovesExactly n keeps L) (a lo : ℕ) where
  -- the register in force at the line after these
  abbrev pub now : List Line → Exact
  now older = present n keeps L (length older) a

  -- the move of a line, by the register in force
  pub line_may : (line : Line) (older : List Line) → IsPast L (line ∷ older) → is_of a line ≡ true → MayExactly n keeps (λ x. now older) (Some line)
  line_may line older past mine = same_actor n keeps L (length older) a (Some line) (of_same a line ∙ mine) (subst (MayExactly n keeps (present n keeps L (length older))) past.0 (moves (length older)))

  pub exact_own : (line : Line) (older : List Line) → IsPast L (line ∷ older) → is_of a line ≡ true → exact n keeps L (suc (length older)) a ≡ note n keeps (now older) (length older) (Some line)
  unfolding exact
  exact_own line older past mine = (
      let own : position.is_of a (L (length older)) ≡ true = ap (position.is_of a) past.0 ∙ of_same a line ∙ mine in
      (λ i. exact_after n keeps (own i) (opens (place L (length older) a) (L (length older))) (exact n keeps L (length older) a) (length older) (past.0 i))
      )

  module _ (Q : List Line → Type 0) (shorter : (line : Line) (older : List Line) → Q (line ∷ older) → Q older) (P : List Line → Exact → Type 0)
      (reset : (older : List Line) (r : Exact) → heal_by (work a older) ≡ [] → P older r → P older untouched)
      (own : (line : Line) (older : List Line) → Q (line ∷ older) → IsPast L (line ∷ older) → Calm a line → P older (now older) → MayExactly n keeps (λ x. now older) (Some line) → P (line ∷ older) (note n keeps (now older) (length older) (Some line))) where
    forced : (older : List Line) (r : Exact) (first : Bool) → (first ≡ true → heal_by (work a older) ≡ []) → P older r → P older (in_force first r)
    forced older r true none h = reset older r (none refl) h
    forced older r false none h = h

    pub walk : (log : List Line) → Q log → IsPast L log → Stretch a lo log → EveryPrefix (λ o. length o ≡ lo → P o (now o)) log → lo ≤ length log → P log (now log)
    walk [] q past calm base low = base (omega (arith, low))
    walk (line ∷ older) q past calm base low = elim (cases_lt (length older) lo) [
      | inl early ↦ base.0 (omega (arith, early, low))
      | inr late ↦ next (walk older (shorter line older q) past.1 calm.1 base.1 late) (calm.0 late)
    ]
      where
        next : P older (now older) → Calm a line → P (line ∷ older) (now (line ∷ older))
        next h c = (
            let after = own line older q past c h (line_may line older past c.mine) in
            forced (line ∷ older) (exact n keeps L (suc (length older)) a) (opens (place L (suc (length older)) a) (L (suc (length older)))) (no_lines L a (line ∷ older) (L (suc (length older))) past)
            (subst (P (line ∷ older)) (sym (exact_own line older past c.mine)) after)
            )
