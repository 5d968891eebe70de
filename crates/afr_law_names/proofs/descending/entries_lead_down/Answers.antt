use Rattle.afr_law_names.proofs.Descent.Entries.{leads_down}
use Rattle.afr_law_names.proofs.Descent.Steps.{paths_down}
use Rattle.afr_law_names.proofs.descending.entries_lead_down.Goals as goal

pub returns : goal.returns
returns c = record {
  tables = λ p log f t was dir name e is directory. leads_down p log f t was dir name e is directory;
  paths = λ p log f a k c d o client present one is same directory. paths_down p log f a k c d o client present one is same directory;
}
