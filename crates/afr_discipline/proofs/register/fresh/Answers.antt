use Rattle.afr_discipline.proofs.StandsLemmas.{stands_untouched}
use Rattle.afr_discipline.proofs.register.fresh.Goals as goal

pub returns-clause-stands : goal.returns-clause-stands
returns-clause-stands c = rw c.empty.ensures (stands_untouched c.args.shape c.requires)
