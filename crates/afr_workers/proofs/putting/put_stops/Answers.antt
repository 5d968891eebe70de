use Rattle.afr_workers.proofs.WorkshopLemmas.{kept_then}
use Rattle.afr_workers.proofs.putting.put_stops.Goals as goal

pub put_stop-requires-2-clause-shop : goal.put_stop-requires-2-clause-shop
put_stop-requires-2-clause-shop c = c.put_stop.ensures.kept.shop

pub put_stop-requires-2-clause-last : goal.put_stop-requires-2-clause-last
put_stop-requires-2-clause-last c = rw (c.put_stop.ensures.volume, c.put_stop.ensures.crew) c.requires.last

pub put_stop-requires-2-clause-over : goal.put_stop-requires-2-clause-over
put_stop-requires-2-clause-over c = rw c.put_stop.ensures.volume c.requires.over

pub rest-requires : goal.rest-requires
rest-requires c = c.put_stop-2.ensures.kept.shop

pub returns : goal.returns
returns c = kept_then c.args.x.now c.put_stop-2.new.x c.rest.new.x (kept_then c.args.x.now c.put_stop.new.x c.put_stop-2.new.x c.put_stop.ensures.kept c.put_stop-2.ensures.kept) c.rest.ensures
