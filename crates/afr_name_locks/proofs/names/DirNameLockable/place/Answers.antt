-- Names that are the same stand at one place.
use Rattle.afr_name_locks.proofs.NameLemmas.{at_one_place}
use Rattle.afr_name_locks.proofs.names.DirNameLockable.place.Goals as goal

pub returns-clause-same : goal.returns-clause-same
returns-clause-same c = at_one_place c.args.self.now
