use Rattle.afr_heal.proofs.Allowed.{heal_next_allowed}
use Rattle.afr_heal.proofs.Kept.{heal_stands}
use Rattle.afr_heal.proofs.laws.each_heal_stands.Goals as goal

pub returns-clause-allowed : goal.returns-clause-allowed
returns-clause-allowed c = heal_next_allowed

pub returns-clause-stands : goal.returns-clause-stands
returns-clause-stands c = heal_stands
