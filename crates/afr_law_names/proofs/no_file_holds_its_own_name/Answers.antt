use Rattle.afr_law_names.proofs.ApartLemmas.{files_elsewhere, only_directories}
use Rattle.afr_law_names.proofs.no_file_holds_its_own_name.Goals as goal

pub returns-clause-names : goal.returns-clause-names
returns-clause-names c = only_directories

pub returns-clause-elsewhere : goal.returns-clause-elsewhere
returns-clause-elsewhere c = files_elsewhere c.a_gfid_is_of_one_kind.ensures.kinds
