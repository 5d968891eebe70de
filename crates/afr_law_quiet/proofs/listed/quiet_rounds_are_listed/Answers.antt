use Rattle.afr_law_quiet.proofs.Lists.Law.{quiet_listed}
use Rattle.afr_law_quiet.proofs.listed.quiet_rounds_are_listed.Goals as goal

pub returns : goal.returns
returns c = record { law = λ p log small some clients short follows honest lawful replied. quiet_listed p log small some clients short follows honest lawful replied }
