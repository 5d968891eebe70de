-- A healer is within its costs at first and as a round begins, and a line beside it changes nothing.
use Rattle.std.proofs.Common.{◌≡◌, ℕ, [], ◌∷◌, Option, None, Some, refl, sym, ap, arith, subst}
use Rattle.afr_law_bound.specs.Ends.Cost.{objects_of, spent}
use Rattle.afr_heal_round.specs.List.Round.{RoundProgress}
use Rattle.afr_heal_round.specs.Rounding.{Rounding, made_ready, ready_at}
use Rattle.afr_heal_round.specs.declared.stage.RoundStage.{RoundStage}
use Rattle.afr_heal_round.specs.declared.stage.RoundStage.TheVariants.{Asking, Healing, Over}
use Rattle.afr_lines.specs.Work.{ended, work}
use Rattle.afr_law_cost.proofs.Healer.Counting.{is_round_cost}
use Rattle.afr_law_cost.specs.Healer.Laws.{RoundPacedAtFirst, RoundPacedOther, RoundPacedReady}
use Rattle.afr_law_cost.specs.Healer.Paced.{IsPacedRound}
use Rattle.afr_law_cost.specs.Round.Laws.{RoundCosts}
use Rattle.afr_law_cost.specs.Round.Left.{AreRooted, left_in_stage}
use Rattle.afr_healer.specs.Acting.{round_or}
use Rattle.afr_healer.specs.Keeping.{CarriesIts}
use Rattle.afr_healer.specs.declared.healer.Healer.{Healer}
use Rattle.afr_law.proofs.Model.Tasks.{other_ends}

pub paced_at_first : RoundPacedAtFirst
paced_at_first p a x new = subst (IsPacedRound p a []) (sym new.idle) (record { within = λ cost e. omega arith; rooted = tt })

-- ---- the merge of names takes no line
ready_left : (n objects : ℕ) (r : RoundProgress) (stage : RoundStage) → left_in_stage n objects r (ready_at stage) ≡ left_in_stage n objects r stage
ready_left n objects r (Asking heals) = refl
ready_left n objects r (Healing h) = refl
ready_left n objects r (Over refused) = refl

ready_rooted : (stage : RoundStage) → AreRooted stage → AreRooted (ready_at stage)
ready_rooted (Asking heals) k = tt
ready_rooted (Healing h) k = k
ready_rooted (Over refused) k = tt

pub paced_ready : RoundCosts → RoundPacedReady
paced_ready costs crawl heals p a log servers b x z healer acting is k = subst (IsPacedRound p a log) (sym (ap (λ (z : Healer). z.round) is)) (by x.round acting.carries k)
  where
    by : (round : Option Rounding) → CarriesIts crawl p a log x.visit.met x.visit.epochs servers round → IsPacedRound p a log round → IsPacedRound p a log (Some (made_ready (round_or p.shape heals b round)))
    by None between k = record {
      within = λ cost e. (
          let most = costs (objects_of p) p.shape heals b in
          let is_cost = is_round_cost p a (ended a log) cost healer e in
          let none : spent (work a log) ≡ 0 = ap spent between.none in
          omega (arith, most, is_cost, none));
      rooted = tt;
    }
    by (Some m) carries k = record {
      within = λ cost e. (
          let same = ready_left m.shape.n (objects_of p) m.round m.stage in
          let h = k.within cost e in
          omega (arith, same, h));
      rooted = ready_rooted m.stage k.rooted;
    }

-- ---- a line of anybody else
pub paced_other : RoundPacedOther
paced_other p c line log round other k = record {
  within = λ cost e. (
      let not_ended = other_ends c line other in
      let same : spent (work c (line ∷ log)) ≡ spent (work c log) = rw other refl in
      let h = k.within cost (rw not_ended at e) in
      omega (arith, same, h));
  rooted = k.rooted;
}
