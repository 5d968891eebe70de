-- Ranges that are the same stand at one place.
use Rattle.afr_range_locks.proofs.RangeLemmas.{at_one_place}
use Rattle.afr_range_locks.proofs.ranges.ObjectRangeLockable.place.Goals as goal

pub returns-clause-same : goal.returns-clause-same
returns-clause-same c = at_one_place c.args.self.now
