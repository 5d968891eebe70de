use Rattle.std.proofs.Common.{true}
use Rattle.afr_workers.proofs.WorkshopLemmas.{shop_rested}
use Rattle.afr_workers.proofs.putting.rest.Goals as goal

pub returns : goal.returns
returns c = shop_rested c.args.x.now (record c.args.x.now.rests { crawler = true }) c.requires
