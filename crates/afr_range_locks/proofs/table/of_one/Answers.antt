-- The one entry's conflict is the first.
use Rattle.std.proofs.Common.{◌∙◌}
use Rattle.afr_range_locks.proofs.OneLemmas.{of_one}
use Rattle.afr_range_locks.proofs.table.of_one.Goals as goal

pub returns-in-Some : goal.returns-in-Some
returns-in-Some g c = c.conflict_at.ensures ∙ of_one g.A.Lockable.overlap c.args.wanted.now (c.in-Some.key.now, c.in-Some.lock.now) c.args.locks.now.entries c.requires c.in-Some.ensures.first
