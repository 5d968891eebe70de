use Rattle.std.proofs.Common.{true}
use Rattle.afr_workers.proofs.WorkshopLemmas.{shop_short}
use Rattle.afr_workers.proofs.threads.SharedCrowd.note_unstarted.Goals as goal

pub invariant_of-self : goal.invariant_of-self
invariant_of-self g c = (shop_short c.self.inside.shop true c.self.invariant.0, c.self.invariant.1)
