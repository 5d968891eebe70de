use Rattle.afr_base.proofs.Tables.{five_list}
use Rattle.afr_base.proofs.brick_set.BrickSet.is_of_five.Goals as goal

pub returns : goal.returns
returns c = rw (← c.self.view_is) (five_list c.self.inside.bits c.self.invariant)
