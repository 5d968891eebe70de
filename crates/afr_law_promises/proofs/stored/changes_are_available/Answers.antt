use Rattle.afr_law_promises.proofs.Available.Logs.{available}
use Rattle.afr_law_promises.proofs.Available.Unfailed.{exact_available}
use Rattle.afr_law_promises.proofs.stored.changes_are_available.Goals as goal

pub returns : goal.returns
returns c = record {
  model = λ crawl p log follows replied. available crawl p log follows replied;
  exact = λ crawl p log five short follows honest lawful replied. exact_available crawl p log five short follows honest lawful replied;
}
