use Rattle.afr_client_transaction.proofs.Again.AgainLemmas.{again_same, plain_first, rests}
use Rattle.afr_client_transaction.proofs.Again.FollowsLemmas.{again_allowed, again_new, again_sound}
use Rattle.afr_client_transaction.proofs.Again.PlainLemmas.{plain_begun, plain_kept, plain_read}
use Rattle.afr_client_transaction.proofs.second_work.a_transaction_follows_another.Goals as goal

pub returns-clause-first : goal.returns-clause-first
returns-clause-first c = plain_first

pub returns-clause-same : goal.returns-clause-same
returns-clause-same c = again_same

pub returns-clause-kept : goal.returns-clause-kept
returns-clause-kept c = plain_kept

pub returns-clause-read : goal.returns-clause-read
returns-clause-read c = plain_read

pub returns-clause-begun : goal.returns-clause-begun
returns-clause-begun c = plain_begun

pub returns-clause-ends : goal.returns-clause-ends
returns-clause-ends c = rests

pub returns-clause-allowed : goal.returns-clause-allowed
returns-clause-allowed c = again_allowed rests c.a_transaction_stays_sound.ensures.acknowledged

pub returns-clause-sound : goal.returns-clause-sound
returns-clause-sound c = again_sound rests c.a_transaction_stays_sound.ensures.stays

pub returns-clause-new : goal.returns-clause-new
returns-clause-new c = again_new
