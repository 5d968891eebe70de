use Rattle.afr_law_names.proofs.Named.Named.{named}
use Rattle.afr_law_names.proofs.named_copies.entries_have_copies.Goals as goal

pub returns : goal.returns
returns c = record { named = named }
