use Rattle.afr_client_entry.proofs.Renames.RenameLemmas.{allowed_next, notes_begin, notes_each, stays_sound}
use Rattle.afr_client_entry.proofs.renaming.laws.a_rename_keeps_the_discipline.Goals as goal

pub returns-clause-allowed : goal.returns-clause-allowed
returns-clause-allowed c = allowed_next

pub returns-clause-stays : goal.returns-clause-stays
returns-clause-stays c = stays_sound

pub returns-clause-notes : goal.returns-clause-notes
returns-clause-notes c = notes_each

pub returns-clause-begins : goal.returns-clause-begins
returns-clause-begins c = notes_begin
