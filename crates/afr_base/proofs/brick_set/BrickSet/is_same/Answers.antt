use Rattle.afr_base.proofs.Tables.{same_list}
use Rattle.afr_base.proofs.brick_set.BrickSet.is_same.Goals as goal

pub returns : goal.returns
returns c = rw (← c.self.view_is, ← c.other.view_is) (same_list c.self.inside.bits c.other.inside.bits c.self.invariant c.other.invariant)
