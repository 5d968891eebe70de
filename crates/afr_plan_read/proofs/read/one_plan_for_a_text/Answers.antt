use Rattle.afr_plan_read.proofs.PlanLemmas.{same-plan, faultless-spells, spells-faultless}
use Rattle.afr_plan_read.proofs.read.one_plan_for_a_text.Goals as goal

pub returns : goal.returns
returns c = record { same = same-plan; found = faultless-spells; none = spells-faultless }
