use Rattle.afr_law_heard.proofs.Rename.Bringing.{rename_brings, rename_makes_known}
use Rattle.afr_law_heard.proofs.Rename.Hearing.{rename_hears}
use Rattle.afr_law_heard.proofs.rename_heard.a_client_hears_of_its_renames.Goals as goal

pub returns-clause-hears : goal.returns-clause-hears
returns-clause-hears c = rename_hears c.entries_are_numbered.ensures

pub returns-clause-loads : goal.returns-clause-loads
returns-clause-loads c = rename_brings

pub returns-clause-begins : goal.returns-clause-begins
returns-clause-begins c = rename_makes_known c.a_found_file_may_be_linked.ensures
