use Rattle.afr_law_heard.proofs.Bringing.{lookup_brings, write_brings, write_makes_nothing}
use Rattle.afr_law_heard.proofs.Hearing.{lookup_hears, write_hears}
use Rattle.afr_law_heard.proofs.a_client_hears_what_it_asked.Goals as goal

pub returns-clause-lookup : goal.returns-clause-lookup
returns-clause-lookup c = lookup_hears

pub returns-clause-write : goal.returns-clause-write
returns-clause-write c = write_hears

pub returns-clause-loads : goal.returns-clause-loads
returns-clause-loads c = write_brings

pub returns-clause-reads : goal.returns-clause-reads
returns-clause-reads c = lookup_brings

pub returns-clause-begins : goal.returns-clause-begins
returns-clause-begins c = write_makes_nothing
