use Rattle.afr_law_heard.proofs.Seen.{finds_seen, finds_source}
use Rattle.afr_law_heard.proofs.Stood.{finds_attempt, finds_path}
use Rattle.afr_law_heard.proofs.a_work_finds_what_it_saw.Goals as goal

pub returns-clause-seen : goal.returns-clause-seen
returns-clause-seen c = finds_seen

pub returns-clause-source : goal.returns-clause-source
returns-clause-source c = finds_source

pub returns-clause-path : goal.returns-clause-path
returns-clause-path c = finds_path

pub returns-clause-attempt : goal.returns-clause-attempt
returns-clause-attempt c = finds_attempt
