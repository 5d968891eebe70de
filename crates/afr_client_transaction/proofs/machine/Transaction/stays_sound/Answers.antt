use Rattle.std.proofs.Common.{subst}
use Rattle.afr_client_transaction.specs.Sound.{Sound}
use Rattle.afr_client_transaction.proofs.machine.Transaction.stays_sound.Goals as goal

pub returns : goal.returns
returns c = subst Sound c.self.view_is c.self.invariant.0.sound
