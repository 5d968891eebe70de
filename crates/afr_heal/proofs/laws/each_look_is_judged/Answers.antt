use Rattle.afr_heal.proofs.Verdicts.{later_is_source, opening_is_verdict}
use Rattle.afr_heal.proofs.laws.each_look_is_judged.Goals as goal

pub returns-clause-opening : goal.returns-clause-opening
returns-clause-opening c = opening_is_verdict

pub returns-clause-later : goal.returns-clause-later
returns-clause-later c = later_is_source
