use Rattle.afr_law_cost.proofs.Roots.{begun_rooted, starts_rooted, stays_rooted}
use Rattle.afr_law_cost.proofs.a_heal_keeps_its_area.Goals as goal

pub returns : goal.returns
returns c = record { asked = stays_rooted; begun = begun_rooted; start = starts_rooted }
