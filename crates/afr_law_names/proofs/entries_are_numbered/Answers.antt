use Rattle.afr_law_names.proofs.Numbers.{entries_numbered}
use Rattle.afr_law_names.proofs.entries_are_numbered.Goals as goal

pub returns : goal.returns
returns c = entries_numbered
