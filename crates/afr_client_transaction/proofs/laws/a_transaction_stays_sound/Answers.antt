use Rattle.afr_client_transaction.proofs.Allowed.{allowed_moves, allowed_next}
use Rattle.afr_client_transaction.proofs.Acknowledged.{acknowledged_exactly}
use Rattle.afr_client_transaction.proofs.Kept.{stays_sound}
use Rattle.afr_client_transaction.proofs.laws.a_transaction_stays_sound.Goals as goal

pub returns-clause-allowed : goal.returns-clause-allowed
returns-clause-allowed c = allowed_next

pub returns-clause-moves : goal.returns-clause-moves
returns-clause-moves c = allowed_moves

pub returns-clause-stays : goal.returns-clause-stays
returns-clause-stays c = stays_sound

pub returns-clause-acknowledged : goal.returns-clause-acknowledged
returns-clause-acknowledged c = acknowledged_exactly
