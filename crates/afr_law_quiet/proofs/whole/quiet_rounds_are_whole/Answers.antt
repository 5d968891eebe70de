use Rattle.afr_law_quiet.proofs.Rounds.Joined.{rounds_whole}
use Rattle.afr_law_quiet.proofs.whole.quiet_rounds_are_whole.Goals as goal

pub returns : goal.returns
returns c = record { whole = λ p log small clients short follows honest lawful replied low. rounds_whole c.quiet_rounds_are_listed.ensures.law c.quiet_rounds_are_unmoved.ensures.unmoved c.quiet_rounds_are_repaired.ensures.kept p log small clients short follows honest lawful replied low }
