use Rattle.afr_client_read.proofs.LookupLemmas.{allowed_next, notes_each, stays_sound}
use Rattle.afr_client_read.proofs.laws.a_lookup_keeps_the_discipline.Goals as goal

pub returns-clause-allowed : goal.returns-clause-allowed
returns-clause-allowed c = allowed_next

pub returns-clause-stays : goal.returns-clause-stays
returns-clause-stays c = stays_sound

pub returns-clause-notes : goal.returns-clause-notes
returns-clause-notes c = notes_each
