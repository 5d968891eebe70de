use Rattle.afr_law_promises.proofs.Unlocked.Law.{exact_unlocked}
use Rattle.afr_law_promises.proofs.freed.works_leave_no_lock.Goals as goal

pub returns : goal.returns
returns c = record { exact = λ p log five short honest lawful. exact_unlocked p log five short honest lawful }
