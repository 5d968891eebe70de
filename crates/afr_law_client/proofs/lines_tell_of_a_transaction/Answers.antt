use Rattle.afr_law_client.proofs.About.{about_next}
use Rattle.afr_law_client.proofs.First.{tells_first}
use Rattle.afr_law_client.proofs.Kept.{tells_kept}
use Rattle.afr_law_client.proofs.lines_tell_of_a_transaction.Goals as goal

pub returns-clause-first : goal.returns-clause-first
returns-clause-first c = tells_first

pub returns-clause-kept : goal.returns-clause-kept
returns-clause-kept c = tells_kept

pub returns-clause-about : goal.returns-clause-about
returns-clause-about c = about_next
