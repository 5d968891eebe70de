use Rattle.std.proofs.Common.{ap, refl}
use Rattle.afr_brick.proofs.Made.{copies}
use Rattle.afr_brick.proofs.PlacesLemmas.{none_found, none_kept}
use Rattle.afr_brick.proofs.store.Store.bare.Goals as goal

pub returns : goal.returns
returns c = rw c.new-places.ensures.empty (ap (copies c.args.keeps) refl)

pub invariant_of-result : goal.invariant_of-result
invariant_of-result c = record {
  apart = rw c.new-places.ensures.empty tt;
  found = rw c.new-shortcuts.ensures.opening (none_found _);
  kept = rw c.new-shortcuts.ensures.others (none_kept _);
}
