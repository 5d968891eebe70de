use Rattle.afr_law_bound.proofs.Standstill.Standing.{goes_on, held_waits, not_all}
use Rattle.afr_law_bound.proofs.stood_still.a_log_goes_on.Goals as goal

pub returns : goal.returns
returns c = record {
  held = λ p older a b area owner took k. held_waits p older a b area owner took k;
  on = λ p line older k still a other w. goes_on p line older k still a other w;
  some = λ p log k all a actor. not_all p log k all a actor;
}
