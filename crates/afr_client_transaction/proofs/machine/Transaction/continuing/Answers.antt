use Rattle.afr_client_transaction.proofs.Kept.{sound_first}
use Rattle.afr_client_transaction.proofs.machine.Transaction.continuing.Goals as goal

pub invariant_of-result : goal.invariant_of-result
invariant_of-result c = (record { sound = rw (c.none-3.ensures, c.none-2.ensures, c.none.ensures) (sound_first c.args.register c.args.change c.requires.unused c.requires.few c.requires.some c.requires.suits); kept = tt }, tt, c.lock_request-lock.ensures)
