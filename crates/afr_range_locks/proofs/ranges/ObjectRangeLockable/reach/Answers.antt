-- Ranges that overlap start below each other's end.
use Rattle.afr_range_locks.proofs.RangeLemmas.{on_one_object, within_reach}
use Rattle.afr_range_locks.proofs.ranges.ObjectRangeLockable.reach.Goals as goal

pub returns-clause-object : goal.returns-clause-object
returns-clause-object c = on_one_object c.args.self.now

pub returns-clause-start : goal.returns-clause-start
returns-clause-start c = λ other e small. within_reach c.args.self.now other c.saturating_sub.result c.saturating_sub.ensures e
