use Rattle.afr_law_client.proofs.Second.Telling.{second_tells}
use Rattle.afr_law_client.proofs.second_tells.a_second_transaction_tells.Goals as goal

pub returns : goal.returns
returns c = second_tells c.a_transaction_follows_another.ensures.sound c.lines_tell_of_a_transaction.ensures.first c.lines_tell_of_a_transaction.ensures.kept
