-- The passes give what is left, and end.
use Rattle.afr_workers.proofs.PassLemmas.{crawled_of, tried_of}
use Rattle.afr_workers.proofs.ending.give_rest.Goals as goal

pub returns-in-Ok-clause-plan : goal.returns-in-Ok-clause-plan
returns-in-Ok-clause-plan g c = c.all_passes-passed.ensures.leads.plan

pub returns-in-Ok-clause-crawls : goal.returns-in-Ok-clause-crawls
returns-in-Ok-clause-crawls g c = c.all_passes-passed.ensures.crew.placed.crawls

pub returns-in-Ok-clause-complete : goal.returns-in-Ok-clause-complete
returns-in-Ok-clause-complete g c = crawled_of c.all_passes-passed.new.volume c.all_passes-passed.new.crew c.all_passes-passed.ensures.crew c.every_line.ensures.room c.every_line.ensures.settled c.in-Ok.ensures.ok

pub returns-in-Ok-clause-tried : goal.returns-in-Ok-clause-tried
returns-in-Ok-clause-tried g c = tried_of c.all_passes-passed.new.volume c.all_passes-passed.new.crew c.all_passes-passed.ensures.crew c.in-Ok.ensures.ok

pub returns-in-Err-clause-plan : goal.returns-in-Err-clause-plan
returns-in-Err-clause-plan g c = c.all_passes-passed.ensures.leads.plan

pub returns-in-Err-clause-crawls : goal.returns-in-Err-clause-crawls
returns-in-Err-clause-crawls g c = c.all_passes-passed.ensures.crew.placed.crawls
