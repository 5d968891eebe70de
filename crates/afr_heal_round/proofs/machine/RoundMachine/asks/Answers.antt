use Rattle.std.proofs.Common.{refl}
use Rattle.afr_heal_round.proofs.machine.RoundMachine.asks.Goals as goal

pub returns-in-Healing : goal.returns-in-Healing
returns-in-Healing c = rw (← c.self.view_is, c.in-Healing.is) c.heal_asks.ensures

pub returns-in-Over : goal.returns-in-Over
returns-in-Over c = rw (← c.self.view_is, c.in-Over.is) (_, refl)
