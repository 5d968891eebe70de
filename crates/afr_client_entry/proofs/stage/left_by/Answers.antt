use Rattle.afr_client_entry.proofs.AskedLemmas.{arrives}
use Rattle.afr_client_entry.proofs.stage.left_by.Goals as goal

pub returns-in-Arrived-clause-kept : goal.returns-in-Arrived-clause-kept
returns-in-Arrived-clause-kept c = rw c.arrived.ensures (arrives c.args.job c.args.walk.now c.requires)
