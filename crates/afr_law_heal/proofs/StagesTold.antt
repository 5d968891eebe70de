-- What the lines of a heal tell at each of its stages: the eight cases.
use Rattle.afr_heal.specs.Standing.{Ending, First, Going, Healing, Looking, Parting, Viewing, Working}
use Rattle.afr_law_heal.proofs.GoingTells.{going_tells}
use Rattle.afr_law_heal.proofs.OpeningHeal.{first_tells, healing_tells}
use Rattle.afr_law_heal.proofs.OpeningViews.{looking_tells}
use Rattle.afr_law_heal.proofs.OpeningWorks.{working_tells}
use Rattle.afr_law_heal.proofs.OverTells.{ending_tells}
use Rattle.afr_law_heal.proofs.PartingLocks.{parting_tells}
use Rattle.afr_law_heal.proofs.StageLaws.{StageTells}
use Rattle.afr_law_heal.proofs.ViewingTells.{viewing_tells}

-- whatever is told of its next line, the lines of a heal that stands tell where it stands then
pub stages_told : StageTells
stages_told pick shape r seen looked s g kind o w some few picks (First k) = first_tells pick shape r seen looked s g kind o w some few picks k
stages_told pick shape r seen looked s g kind o w some few picks (Healing k) = healing_tells pick shape r seen looked s g kind o w some few picks k
stages_told pick shape r seen looked s g kind o w some few picks (Working k) = working_tells pick shape r seen looked s g kind o w some few picks k
stages_told pick shape r seen looked s g kind o w some few picks (Looking k) = looking_tells pick shape r seen looked s g kind o w some few picks k
stages_told pick shape r seen looked s g kind o w some few picks (Parting k) = parting_tells pick shape r seen looked s g kind o w some few picks k
stages_told pick shape r seen looked s g kind o w some few picks (Viewing k) = viewing_tells pick shape r seen looked s g kind o w some few picks k
stages_told pick shape r seen looked s g kind o w some few picks (Going k) = going_tells pick shape r seen looked s g kind o w few k
stages_told pick shape r seen looked s g kind o w some few picks (Ending k) = λ shown. ending_tells pick shape r seen looked s g kind o w k
