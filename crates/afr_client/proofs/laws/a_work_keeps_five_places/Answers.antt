use Rattle.afr_client.proofs.FiveLemmas.{begins_with_five, keeps_five, keeps_five_begun}
use Rattle.afr_client.proofs.laws.a_work_keeps_five_places.Goals as goal

pub returns-clause-first : goal.returns-clause-first
returns-clause-first c = begins_with_five

pub returns-clause-asked : goal.returns-clause-asked
returns-clause-asked c = keeps_five

pub returns-clause-begun : goal.returns-clause-begun
returns-clause-begun c = keeps_five_begun
