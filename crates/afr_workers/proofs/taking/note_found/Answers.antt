use Rattle.afr_workers.proofs.WorkshopLemmas.{shop_rested}
use Rattle.afr_workers.proofs.taking.note_found.Goals as goal

pub returns-clause-kept : goal.returns-clause-kept
returns-clause-kept c = shop_rested c.args.x.now c.rests_after-x.result c.requires
