-- Each line of a round's machine comes nearer to its end.
use Rattle.std.proofs.Common.{◌≡◌, ◌≤◌, ◌+◌, ℕ, ap, arith, false, refl, subst, sym, true}
use Rattle.afr_heal.proofs.Parts.{not_both}
use Rattle.afr_heal.specs.Engine.{Ask, Begins, Ends, NextOfHeal}
use Rattle.afr_law_cost.specs.Left.{taken}
use Rattle.afr_heal_round.specs.Rounding as round
use Rattle.afr_heal_round.specs.Rounding.{IsStaged, Rounding, healed}
use Rattle.afr_heal_round.specs.declared.stage.RoundStage.{RoundStage}
use Rattle.afr_heal_round.specs.declared.stage.RoundStage.TheVariants.{Asking, Healing as At, Over}
use Rattle.afr_lines.specs.Told.{told_by}
use Rattle.afr_lines.specs.declared.answer.Answer.{Answer}
use Rattle.afr_law_cost.proofs.Round.Rounds.{healed_nearer, index_nearer, round_follows}
use Rattle.afr_law_cost.specs.Round.Laws.{HealAsksNearer, HealAsksRooted, HealBeginsNearer, HealCosts, HealEndLeft, RoundAsksNearer, RoundBeginsNearer, RoundHealedNearer}
use Rattle.afr_law_cost.specs.Round.Left.{AreRooted, IsRooted, heal_left, round_left, taken_by}
use Rattle.afr_heal_machine.specs.Healing as heal
use Rattle.afr_heal_machine.specs.Healing.{CanHear, Healing, IsAnswered, IsHealing, answered, begun, coming, register_after}
use Rattle.afr_heal_machine.specs.Source.{IsCandidate, is_found}
use Rattle.afr_discipline.specs.Stands.{seen_as}

module _ (asks : HealAsksNearer) (roots : HealAsksRooted) (costs : HealCosts) where
  -- the heal that it is at
  heal_near : (m after : Healing) (answer : Answer) (at : ℕ) → IsHealing m → IsRooted m → CanHear (coming m) answer → IsAnswered answer at m after → (heal_left after + taken_by (heal.next_of m) answer ≤ heal_left m) × IsRooted after
  heal_near m after answer at k rooted can w =
      let hears : CanHear (Ask w.brick w.request) answer = subst (λ (next : NextOfHeal). CanHear next answer) w.asked can in
      let value = w.value in
      let picks : is_found m.register.shape.n (seen_as (register_after m w.brick w.request answer at)) ≡ true → IsCandidate (register_after m w.brick w.request answer at) w.chosen.0 = subst (λ (new : Healing). is_found m.register.shape.n (seen_as new.register) ≡ true → IsCandidate new.register w.chosen.0) value w.picked in
      let h = asks m w.brick w.request answer at w.chosen k rooted w.asked hears picks in
      let r = roots m w.brick w.request answer at w.chosen k rooted w.asked hears in
      let t : taken_by (heal.next_of m) answer ≡ taken w.request (told_by answer) = ap (λ (next : NextOfHeal). taken_by (heal.line_of m next) answer) w.asked in
      let e : heal_left after ≡ heal_left (answered m w.brick w.request answer at w.chosen) = ap heal_left w.value in
      let v = w.value in
      (omega (arith, h, t, e), subst IsRooted (sym v) r)

  pub round_asks_nearer : RoundAsksNearer
  round_asks_nearer objects old new answer at k rooted lists can w = go old.stage refl k.staged rooted can w
    where
      go : (stage : RoundStage) → old.stage ≡ stage → IsStaged old.shape stage → AreRooted stage → round.CanHearAt stage answer → round.IsAnsweredAt answer at stage old new
          → (round_left objects new + taken_by (round.next_at old.round.brick stage) answer ≤ round_left objects old) × AreRooted new.stage
      go (Asking heals) is staged rooted can w =
          let h = index_nearer costs objects old heals answer is lists in
          let e = ap (round_left objects) w in
          let v = w in
          (omega (arith, h.0, e), subst (λ (m : Rounding). AreRooted m.stage) (sym v) h.1)
      go (At m) is staged rooted can w =
          let h = heal_near m w.0 answer at staged.0 rooted can w.1 in
          let f = round_follows objects old m w.0 (taken_by (heal.next_of m) answer) is h.0 in
          let e = ap (round_left objects) w.2 in
          let v = w.2 in
          (omega (arith, f, e), subst (λ (m : Rounding). AreRooted m.stage) (sym v) h.1)
      go (Over refused) is staged rooted can w = absurd can

pub round_begins_nearer : HealBeginsNearer → RoundBeginsNearer
round_begins_nearer begins objects old at k rooted next = go old.stage refl k.staged rooted next
  where
    next_begins : (m : Healing) (next : NextOfHeal) → coming m ≡ next → round.is_beginning (heal.line_of m next) ≡ true → coming m ≡ Begins
    next_begins m (Ask b request) e h = absurd (not_both false h refl)
    next_begins m Begins e h = e
    next_begins m Ends e h = absurd (not_both false h refl)

    go : (stage : RoundStage) → old.stage ≡ stage → IsStaged old.shape stage → AreRooted stage → round.is_beginning (round.next_at old.round.brick stage) ≡ true → (round_left objects (round.begun at old) + 1 ≤ round_left objects old) × AreRooted (round.begun at old).stage
    go (Asking heals) is staged rooted h = absurd (not_both false h refl)
    go (At m) is staged rooted h =
        let b = begins m at staged.0 rooted (next_begins m (coming m) refl h) in
        let f = round_follows objects old m (begun at m) 1 is b.0 in
        let e : round.begun_at at old.stage ≡ At (begun at m) = ap (round.begun_at at) is in
        let v : record old { stage = At (begun at m) } ≡ round.begun at old = ap (λ (stage : RoundStage). record old { stage = stage }) (sym e) in
        (subst (λ (new : Rounding). round_left objects new + 1 ≤ round_left objects old) v f, subst (λ (new : Rounding). AreRooted new.stage) v b.1)
    go (Over refused) is staged rooted h = absurd (not_both false h refl)

pub round_healed_nearer : HealEndLeft → HealCosts → RoundHealedNearer
round_healed_nearer end costs objects old k next = go old.stage refl k.staged next
  where
    go : (stage : RoundStage) → old.stage ≡ stage → IsStaged old.shape stage → round.is_ending (round.next_at old.round.brick stage) ≡ true → (round_left objects (healed old) + 1 ≤ round_left objects old) × AreRooted (healed old).stage
    go (Asking heals) is staged h = absurd (not_both false h refl)
    go (At m) is staged h = healed_nearer costs objects old m is (end m staged.0)
    go (Over refused) is staged h = absurd (not_both false h refl)
