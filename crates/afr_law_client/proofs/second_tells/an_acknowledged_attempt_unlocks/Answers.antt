use Rattle.afr_law_client.proofs.Second.HeldLemmas.{acknowledged_unlocks, held_first, held_given_up, held_kept, held_read, held_unlocked, part_unlocks}
use Rattle.afr_law_client.proofs.second_tells.an_acknowledged_attempt_unlocks.Goals as goal

pub returns-clause-first : goal.returns-clause-first
returns-clause-first c = held_first

pub returns-clause-kept : goal.returns-clause-kept
returns-clause-kept c = held_kept

pub returns-clause-read : goal.returns-clause-read
returns-clause-read c = held_read

pub returns-clause-given_up : goal.returns-clause-given_up
returns-clause-given_up c = held_given_up

pub returns-clause-unlocked : goal.returns-clause-unlocked
returns-clause-unlocked c = held_unlocked

pub returns-clause-unlocks : goal.returns-clause-unlocks
returns-clause-unlocks c = acknowledged_unlocks

pub returns-clause-part : goal.returns-clause-part
returns-clause-part c = part_unlocks
