use Rattle.afr_client_entry.proofs.Removals.KeptLemmas.{reader_small}
use Rattle.afr_client_entry.proofs.removing.machine.Removal.brick.Goals as goal

pub returns-in-Listing-clause-small : goal.returns-in-Listing-clause-small
returns-in-Listing-clause-small c =
    reader_small (record { change = c.self.inside.change; register = c.self.inside.register; stage = c.self.inside.stage; child = c.self.inside.child }) c.self.invariant c.in-Listing.is
