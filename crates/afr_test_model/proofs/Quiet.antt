-- A round that nothing disturbed, and rounds that something did.
use Rattle.std.specs.Prelude.{◌≡◌, ◌⊎◌, ℕ, ◌==◌, Bool, true, false, [], ◌∷◌, refl}
use Rattle.std.proofs.Common.{arith, inl, inr, sym}
use Rattle.afr_lines.specs.Work.{Work, work, is_killed}
use Rattle.afr_lines.specs.declared.answer.Told.TheVariants as told
use Rattle.afr_lines.specs.declared.request.Request.TheVariants as request
use Rattle.afr_model.specs.Actors.{IsActor}
use Rattle.afr_model.specs.Quiet.{IsQuiet}
use Rattle.afr_test_model.proofs.HealWords.{index}
use Rattle.afr_test_model.proofs.Means.{fails, passes, told_apart}
use Rattle.afr_test_model.proofs.Words.{heal_ask, look_root, plan}

-- the healer of the plan
healer_17 : IsActor plan 17
healer_17 = IsActor.Healer (omega arith) (omega arith)

-- a round that is the whole log
pub a_round_alone_is_quiet : IsQuiet plan 17 (index 0 ∷ [])
a_round_alone_is_quiet = record { healer = healer_17; together = refl; unfailed = refl; alone = λ x actor another. inr refl }

-- a round whose request was told a fault
pub a_fault_is_not_quiet : IsQuiet plan 17 (heal_ask 0 request.Index told.Failed ∷ []) → ⊥
a_fault_is_not_quiet quiet = passes quiet.unfailed

-- a line of the client in its midst
pub a_line_between_is_not_quiet : IsQuiet plan 17 (heal_ask 0 request.Index told.Given ∷ look_root 0 ∷ index 0 ∷ []) → ⊥
a_line_between_is_not_quiet quiet = told_apart (λ (lines : ℕ). lines == 2) _ _ refl refl quiet.together

-- a client in the midst of its command
pub a_client_at_work_is_not_quiet : IsQuiet plan 17 (index 0 ∷ look_root 0 ∷ []) → ⊥
a_client_at_work_is_not_quiet quiet = neither (quiet.alone 1 (IsActor.Client (omega arith) (omega arith)) (λ same. absurd (omega (arith, same))))
  where
    is_idle : Work → Bool
    is_idle [] = true
    is_idle (x ∷ w) = false

    neither : (is_killed 1 (look_root 0 ∷ []) ≡ true) ⊎ (work 1 (look_root 0 ∷ []) ≡ []) → ⊥
    neither (inl killed) = fails killed
    neither (inr idle) = told_apart is_idle _ _ refl refl (sym idle)

-- the client isn't a healer, and has no round
pub a_client_has_no_round : IsQuiet plan 16 [] → ⊥
a_client_has_no_round quiet = nobody quiet.healer
  where
    nobody : IsActor plan 16 → ⊥
    nobody (IsActor.Client least most) = absurd (omega (arith, most))
    nobody (IsActor.Healer least most) = absurd (omega (arith, least))
