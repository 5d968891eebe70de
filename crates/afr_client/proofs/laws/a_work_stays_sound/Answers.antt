use Rattle.afr_client.proofs.WorkLemmas.{allowed_next, asks_low, asks_more, begins_fresh, begins_more, has_few, notes_begin, notes_each, stays_outside, stays_sound}
use Rattle.afr_client.proofs.laws.a_work_stays_sound.Goals as goal

pub returns-clause-fresh : goal.returns-clause-fresh
returns-clause-fresh c = begins_fresh

pub returns-clause-allowed : goal.returns-clause-allowed
returns-clause-allowed c = allowed_next

pub returns-clause-stays : goal.returns-clause-stays
returns-clause-stays c = stays_sound

pub returns-clause-asks_more : goal.returns-clause-asks_more
returns-clause-asks_more c = asks_more

pub returns-clause-begins_more : goal.returns-clause-begins_more
returns-clause-begins_more c = begins_more

pub returns-clause-notes : goal.returns-clause-notes
returns-clause-notes c = notes_each

pub returns-clause-notes_begin : goal.returns-clause-notes_begin
returns-clause-notes_begin c = notes_begin

pub returns-clause-few : goal.returns-clause-few
returns-clause-few c = has_few

pub returns-clause-outside : goal.returns-clause-outside
returns-clause-outside c = stays_outside

pub returns-clause-low : goal.returns-clause-low
returns-clause-low c = asks_low
