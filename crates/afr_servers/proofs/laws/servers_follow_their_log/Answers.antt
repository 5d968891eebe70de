-- Each clause is a lemma.
use Rattle.afr_servers.proofs.NeedsLemmas.{answers_read, needs_met}
use Rattle.afr_servers.proofs.NextLemmas.{asked_served, event_served, met_served, new_served, written_served}
use Rattle.afr_servers.proofs.AllStarted.{started_known}
use Rattle.afr_servers.proofs.laws.servers_follow_their_log.Goals as goal

pub returns-clause-new : goal.returns-clause-new
returns-clause-new c = new_served

pub returns-clause-asked : goal.returns-clause-asked
returns-clause-asked c = asked_served

pub returns-clause-written : goal.returns-clause-written
returns-clause-written c = written_served

pub returns-clause-met : goal.returns-clause-met
returns-clause-met c = met_served

pub returns-clause-event : goal.returns-clause-event
returns-clause-event c = event_served

pub returns-clause-needs : goal.returns-clause-needs
returns-clause-needs c = needs_met

pub returns-clause-answers : goal.returns-clause-answers
returns-clause-answers c = answers_read

pub returns-clause-started : goal.returns-clause-started
returns-clause-started c = started_known
