-- What is in the way in the map was granted before what is in the way in the row.
use Rattle.std.proofs.Common.{◌∙◌, ap, sym}
use Rattle.afr_lines.specs.Locks.{first_conflict}
use Rattle.afr_range_locks.proofs.LateLemmas.{found_first, found_last}
use Rattle.afr_range_locks.proofs.locked.LockTable.blocked.Goals as goal

pub returns-in-Some : goal.returns-in-Some
returns-in-Some g c = found_first g.A.Lockable.overlap c.args.wanted.now c.self.inside.filed c.self.inside.late.items _ c.in-Some.owner c.self.view_is (sym c.in-Some.is ∙ c.blocked.ensures)

pub returns-in-None : goal.returns-in-None
returns-in-None g c = c.blocked_late.ensures ∙ ap (first_conflict g.A.Lockable.overlap c.args.wanted.now) c.as_slice.ensures.value ∙ found_last g.A.Lockable.overlap c.args.wanted.now c.self.inside.filed c.self.inside.late.items _ c.self.view_is (sym c.in-None.is ∙ c.blocked.ensures)
