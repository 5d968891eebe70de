use Rattle.afr_law_order.proofs.Heal.Rising.{healers_rise, next_rises}
use Rattle.afr_law_order.proofs.heal_order.heals_ask_in_rising_order.Goals as goal

pub returns : goal.returns
returns c = record {
  heals = λ p log f. healers_rise p log f;
  next = λ p log a b request told took r f k inside. next_rises p log a b request told took r f k inside;
}
