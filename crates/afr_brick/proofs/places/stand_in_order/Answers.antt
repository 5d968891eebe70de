use Rattle.afr_brick.proofs.PlacesLemmas.{keys_of-table}
use Rattle.afr_brick.proofs.places.stand_in_order.Goals as goal

pub returns : goal.returns
returns c = rw (keys_of-table c.args.objects.now.items c.args.places.now.entries) c.len.ensures.ordered
