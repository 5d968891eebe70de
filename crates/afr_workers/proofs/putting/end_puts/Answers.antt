use Rattle.std.proofs.Common.{refl}
use Rattle.afr_workers.proofs.putting.end_puts.Goals as goal

pub next_item-requires : goal.next_item-requires
next_item-requires c = c.requires.shop.placed.crawls

pub put_stops-requires-clause-last : goal.put_stops-requires-clause-last
put_stops-requires-clause-last c = c.in-None.ensures.none refl
