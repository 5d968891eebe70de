use Rattle.afr_law_client.proofs.HonestFits.{honest_fits, honest_phases}
use Rattle.afr_law_client.proofs.an_honest_answer_fits.Goals as goal

pub returns-clause-fits : goal.returns-clause-fits
returns-clause-fits c = honest_fits

pub returns-clause-phases : goal.returns-clause-phases
returns-clause-phases c = honest_phases
