use Rattle.afr_law_client.proofs.Over.{asks_all_for_locks, ends_answered, replies_exactly, skips_none}
use Rattle.afr_law_client.proofs.a_transaction_ends_with_its_cause.Goals as goal

pub returns-clause-replies : goal.returns-clause-replies
returns-clause-replies c = replies_exactly

pub returns-clause-asks : goal.returns-clause-asks
returns-clause-asks c = asks_all_for_locks

pub returns-clause-skips : goal.returns-clause-skips
returns-clause-skips c = skips_none

pub returns-clause-answered : goal.returns-clause-answered
returns-clause-answered c = ends_answered
