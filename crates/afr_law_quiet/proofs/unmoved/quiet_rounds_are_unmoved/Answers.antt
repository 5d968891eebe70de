use Rattle.afr_law_quiet.proofs.Moves.Rounds.{quiet_unmoved}
use Rattle.afr_law_quiet.proofs.unmoved.quiet_rounds_are_unmoved.Goals as goal

pub returns : goal.returns
returns c = record { unmoved = quiet_unmoved }
