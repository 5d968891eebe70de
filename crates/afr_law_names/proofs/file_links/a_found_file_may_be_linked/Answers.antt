use Rattle.afr_law_names.proofs.Links.Found.{found_is_known}
use Rattle.afr_law_names.proofs.file_links.a_found_file_may_be_linked.Goals as goal

pub returns : goal.returns
returns c = found_is_known
