use Rattle.afr_model.proofs.Cut.Cut.{parts_whole}
use Rattle.afr_law_client.proofs.Second.Folds.{blamed_whole}
use Rattle.afr_law_client.proofs.second_tells.a_part_is_blamed_as_the_whole.Goals as goal

pub returns-clause-parts : goal.returns-clause-parts
returns-clause-parts c = parts_whole

pub returns-clause-blamed : goal.returns-clause-blamed
returns-clause-blamed c = blamed_whole
