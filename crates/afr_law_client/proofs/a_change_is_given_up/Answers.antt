use Rattle.afr_law_client.proofs.GivenUpLemmas.{given_up_about, given_up_ends, given_up_kept, gives_up}
use Rattle.afr_law_client.proofs.a_change_is_given_up.Goals as goal

pub returns-clause-gives : goal.returns-clause-gives
returns-clause-gives c = gives_up

pub returns-clause-kept : goal.returns-clause-kept
returns-clause-kept c = given_up_kept

pub returns-clause-about : goal.returns-clause-about
returns-clause-about c = given_up_about

pub returns-clause-ends : goal.returns-clause-ends
returns-clause-ends c = given_up_ends
