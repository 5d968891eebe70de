-- A stop is put behind all items.
use Rattle.std.proofs.Common.{arith}
use Rattle.afr_workers.proofs.WorkshopLemmas.{kept_here, shop_stops}
use Rattle.afr_workers.proofs.putting.put_stop.Goals as goal

pub returns-then-x-ge2-clause-kept : goal.returns-then-x-ge2-clause-kept
returns-then-x-ge2-clause-kept c = kept_here c.args.x.now c.requires.shop

pub returns-clause-kept : goal.returns-clause-kept
returns-clause-kept c = shop_stops c.args.x.now c.put_one_stop.new.tasks c.put_one_stop.new.stops c.requires.last c.requires.over (omega arith) c.put_one_stop.ensures c.requires.shop
