-- The engine's line is that of the machine's value.
use Rattle.std.proofs.Common.{◌≡◌, subst}
use Rattle.afr_heal.specs.Coming.{comes}
use Rattle.afr_heal_machine.specs.Healing.{Healing, coming}
use Rattle.afr_heal_machine.proofs.machine.HealMachine.asks.Goals as goal

pub returns : goal.returns
returns c = subst (λ (m : Healing). comes c.heal_next.result c.heal_next.new.request ≡ coming m) c.self.view_is c.heal_next.ensures
