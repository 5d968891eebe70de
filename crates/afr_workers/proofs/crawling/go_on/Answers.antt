use Rattle.afr_workers.proofs.PassLemmas.{leads_nowhere}
use Rattle.afr_workers.proofs.crawling.go_on.Goals as goal

pub returns-then-not-has_room-clause-leads : goal.returns-then-not-has_room-clause-leads
returns-then-not-has_room-clause-leads g c = leads_nowhere c.args.volume.now
