use Rattle.afr_law_heard.proofs.Entry.Bringing.{entry_brings, entry_makes_new}
use Rattle.afr_law_heard.proofs.Entry.Hearing.{entry_hears}
use Rattle.afr_law_heard.proofs.entry_heard.a_client_hears_of_its_names.Goals as goal

pub returns-clause-hears : goal.returns-clause-hears
returns-clause-hears c = entry_hears

pub returns-clause-loads : goal.returns-clause-loads
returns-clause-loads c = entry_brings

pub returns-clause-begins : goal.returns-clause-begins
returns-clause-begins c = entry_makes_new
