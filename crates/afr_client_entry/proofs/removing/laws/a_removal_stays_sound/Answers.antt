use Rattle.afr_client_entry.proofs.Removals.AllowedLemmas.{allowed_moves}
use Rattle.afr_client_entry.proofs.Removals.KeptLemmas.{begins_sound, stays_sound}
use Rattle.afr_client_entry.proofs.removing.laws.a_removal_stays_sound.Goals as goal

pub returns-clause-moves : goal.returns-clause-moves
returns-clause-moves c = allowed_moves

pub returns-clause-stays : goal.returns-clause-stays
returns-clause-stays c = stays_sound

pub returns-clause-begins : goal.returns-clause-begins
returns-clause-begins c = begins_sound
