-- A split-brain that rounds at all bricks leave as it was, and numbers that are left where one brick had no round.
use Rattle.std.proofs.Common.{◌≡◌, ℕ, zero, suc, inl, inr, refl, sym, true, arith, List, [], ◌∷◌}
use Rattle.std.specs.Prelude.{◌==◌}
use Rattle.afr_base.specs.Bricks.{below}
use Rattle.afr_base.specs.declared.ids.BrickId.{BrickId}
use Rattle.afr_base.specs.declared.ids.Kind.TheVariants.{Attrs}
use Rattle.afr_object.specs.Tables.{root}
use Rattle.afr_lines.specs.declared.answer.Told.TheVariants.{Given}
use Rattle.afr_lines.specs.declared.line.Line.{Line}
use Rattle.afr_lines.specs.declared.line.Line.TheVariants.{Ask, End}
use Rattle.afr_lines.specs.declared.request.Request.TheVariants.{Index}
use Rattle.afr_plan.specs.declared.plan.Plan.{Plan}
use Rattle.afr_model.specs.Actors.{IsActor}
use Rattle.afr_model.specs.ReportObjects.{is_split_verdict}
use Rattle.afr_model.specs.Sums.{pending_of}
use Rattle.afr_law_passes.specs.Converged.{AreAll, AreRounds, EndsRound, IsConverged, IsUnchanged}
use Rattle.afr_law_passes.proofs.Spared.{spared, unchanged_on}
use Rattle.afr_test_law.proofs.Promises.Words.{first, ok, split, three, told_apart}

abbrev pub brick : ℕ → BrickId
brick b = record { 0 = b }

-- the healer has a round over each of the three bricks, and no client is left
abbrev pub healing : Plan → Plan
healing q = record (three q) { clients = []; healers = (brick 0 ∷ brick 1 ∷ brick 2 ∷ []) ∷ [] }

-- the healer asks a brick for its index
abbrev pub index : ℕ → Line
index b = Ask (record { 0 = 17 }) (record { 0 = b }) Index Given true

-- a round at a brick that heals nothing
abbrev pub round : ℕ → List Line → List Line
round b older = End (record { 0 = 17 }) ok ∷ index b ∷ older

-- rounds at all bricks
abbrev pub all_rounds : List Line → List Line
all_rounds start = round 2 (round 1 (round 0 start))

abbrev pub all_bricks : List BrickId
all_bricks = brick 2 ∷ brick 1 ∷ brick 0 ∷ []

module _ (q : Plan) where
  -- the healer is the only actor
  only : (x : ℕ) → IsActor (healing q) x → x ≡ 17
  only x (IsActor.Client least most) = absurd (omega (arith, least, most))
  only x (IsActor.Healer least most) = omega (arith, least, most)

  pub all_are_rounds : AreRounds (healing q) split all_bricks (all_rounds split)
  all_are_rounds = (over_2, (over_1, (over_0, refl)))
    where
      healer : IsActor (healing q) 17
      healer = IsActor.Healer (omega arith) (omega arith)

      over_0 : EndsRound (healing q) (brick 0) (round 0 split)
      over_0 = record { healer = record { 0 = 17 }; said = ok; older = index 0 ∷ split; last = refl; high = omega arith; over = refl; quiet = record { healer = healer; together = refl; unfailed = refl; alone = λ x actor another. absurd (another (only x actor)) } }

      over_1 : EndsRound (healing q) (brick 1) (round 1 (round 0 split))
      over_1 = record { healer = record { 0 = 17 }; said = ok; older = index 1 ∷ round 0 split; last = refl; high = omega arith; over = refl; quiet = record { healer = healer; together = refl; unfailed = refl; alone = λ x actor another. absurd (another (only x actor)) } }

      over_2 : EndsRound (healing q) (brick 2) (all_rounds split)
      over_2 = record { healer = record { 0 = 17 }; said = ok; older = index 2 ∷ round 1 (round 0 split); last = refl; high = omega arith; over = refl; quiet = record { healer = healer; together = refl; unfailed = refl; alone = λ x actor another. absurd (another (only x actor)) } }

  pub every_brick_has_one : AreAll (healing q) all_bricks
  every_brick_has_one zero low = (2, refl)
  every_brick_has_one (suc zero) low = (1, refl)
  every_brick_has_one (suc (suc zero)) low = (0, refl)
  every_brick_has_one (suc (suc (suc b))) low = absurd (omega (arith, low))

  -- the split-brain is as it was
  pub the_split_stays : IsConverged (healing q) split (all_rounds split) root Attrs
  unfolding below
  the_split_stays = inr (refl, unchanged)
    where
      step : (b : ℕ) (older : List Line) → IsUnchanged (healing q) older (round b older) root Attrs
      step b older = unchanged_on (healing q) older (index b ∷ older) (round b older) root Attrs (spared (healing q) root Attrs (index b) older tt) (spared (healing q) root Attrs (End (record { 0 = 17 }) ok) (index b ∷ older) tt)

      unchanged : IsUnchanged (healing q) split (all_rounds split) root Attrs
      unchanged = unchanged_on (healing q) split (round 1 (round 0 split)) (all_rounds split) root Attrs (unchanged_on (healing q) split (round 0 split) (round 1 (round 0 split)) root Attrs (step 0 split) (step 1 (round 0 split))) (step 2 (round 1 (round 0 split)))

  -- two bricks accuse the third: a round at the third alone settles nothing
  pub a_round_at_one_brick_is_too_few : IsConverged (healing q) first (round 2 first) root Attrs → ⊥
  unfolding below
  a_round_at_one_brick_is_too_few (inl clear) = told_apart (λ n. n == 1) (pending_of (healing q) (round 2 first) 0 2 root Attrs) 0 refl refl ((clear.clear 0 (omega arith)).1 2 (omega arith))
  a_round_at_one_brick_is_too_few (inr split_first) = told_apart (λ verdict. is_split_verdict verdict) _ _ refl refl (sym split_first.0)
