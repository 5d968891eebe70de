use Rattle.afr_workers.proofs.WorkshopLemmas.{kept_then}
use Rattle.afr_workers.proofs.ending.pass.Goals as goal

pub pass_healers-requires-clause-shop : goal.pass_healers-requires-clause-shop
pass_healers-requires-clause-shop g c = c.pass_clients.ensures.shop

pub returns : goal.returns
returns g c = kept_then c.args.x.now c.pass_clients.new.x c.pass_healers.new.x c.pass_clients.ensures c.pass_healers.ensures
