use Rattle.afr_law_quiet.proofs.Copies.Kept.{quiet_repaired}
use Rattle.afr_law_quiet.proofs.repaired.quiet_rounds_are_repaired.Goals as goal

pub returns : goal.returns
returns c = record { kept = λ p log five some short follows honest lawful replied. quiet_repaired p log five some short follows honest lawful replied }
