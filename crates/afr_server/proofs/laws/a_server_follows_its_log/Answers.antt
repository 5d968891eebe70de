-- Each clause is a lemma.
use Rattle.afr_server.proofs.ElsewhereLemmas.{served_elsewhere, served_met}
use Rattle.afr_server.proofs.EventLemmas.{served_event}
use Rattle.afr_server.proofs.OpeningLemmas.{served_new}
use Rattle.afr_server.proofs.ServedLemmas.{served_first, served_within}
use Rattle.afr_server.proofs.laws.a_server_follows_its_log.Goals as goal

pub returns-clause-opening : goal.returns-clause-opening
returns-clause-opening c = served_new

pub returns-clause-within : goal.returns-clause-within
returns-clause-within c = served_within

pub returns-clause-first : goal.returns-clause-first
returns-clause-first c = served_first

pub returns-clause-elsewhere : goal.returns-clause-elsewhere
returns-clause-elsewhere c = served_elsewhere

pub returns-clause-met : goal.returns-clause-met
returns-clause-met c = served_met

pub returns-clause-event : goal.returns-clause-event
returns-clause-event c = served_event
