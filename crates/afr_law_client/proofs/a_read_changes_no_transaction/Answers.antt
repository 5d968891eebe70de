use Rattle.afr_law_client.proofs.ReadsLemmas.{reads_kept}
use Rattle.afr_law_client.proofs.a_read_changes_no_transaction.Goals as goal

pub returns : goal.returns
returns c = reads_kept
