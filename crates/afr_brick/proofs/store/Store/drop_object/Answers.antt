use Rattle.std.proofs.Common.{ap}
use Rattle.afr_brick.proofs.Made.{copies}
use Rattle.afr_brick.proofs.PlacesLemmas.{none_found, none_kept}
use Rattle.afr_brick.proofs.store.Store.drop_object.Goals as goal

pub returns : goal.returns
returns c = rw (← c.self.view_is) (ap (copies c.self.inside.keeps) c.give_up.ensures.table)

pub invariant_of-self : goal.invariant_of-self
invariant_of-self c = record {
  apart = c.give_up.ensures.apart;
  found = rw c.clear.ensures.opening (none_found _);
  kept = rw c.clear.ensures.others (none_kept _);
}
