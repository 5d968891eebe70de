use Rattle.afr_law_passes.proofs.Passes.{quiet_converge}
use Rattle.afr_law_passes.proofs.Rounds.{quiet_leave}
use Rattle.afr_law_passes.proofs.quiet_rounds_converge.Goals as goal

pub returns : goal.returns
returns c = record {
  leave = λ p log five clients short follows honest lawful replied low. quiet_leave c.quiet_rounds_are_whole.ensures.whole p log five clients short follows honest lawful replied low;
  converge = λ p log five clients short follows honest lawful replied low. quiet_converge c.quiet_rounds_are_whole.ensures.whole p log five clients short follows honest lawful replied low;
}
