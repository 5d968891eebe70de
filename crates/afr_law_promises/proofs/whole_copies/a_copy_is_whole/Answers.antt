use Rattle.afr_law_promises.proofs.Whole.Model.{exact_whole}
use Rattle.afr_law_promises.proofs.whole_copies.a_copy_is_whole.Goals as goal

pub returns : goal.returns
returns c = record { exact = λ p log five short honest lawful. exact_whole p log five short honest lawful }
