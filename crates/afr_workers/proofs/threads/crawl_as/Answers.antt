-- The orders of the clients give the workers nothing.
use Rattle.std.proofs.Common.{◌∙◌}
use Rattle.afr_workers.proofs.BeginningLemmas.{begun}
use Rattle.afr_workers.proofs.threads.crawl_as.Goals as goal

pub by_threads-requires-clause-name : goal.by_threads-requires-clause-name
by_threads-requires-clause-name g c = λ ks live. c.take_client_orders-ordered.ensures.goes.plan ∙ c.requires.name

pub by_threads-requires-clause-begun : goal.by_threads-requires-clause-begun
by_threads-requires-clause-begun g c = λ ks live.
    begun c.args.volume c.take_client_orders-ordered.new.volume (c.every_line.ensures.resting c.requires.fresh) c.requires.crawls c.requires.fresh (c.every_line.ensures.crawls c.requires.crawls) c.take_client_orders-ordered.ensures.runs

pub returns-in-Ok-clause-plan : goal.returns-in-Ok-clause-plan
returns-in-Ok-clause-plan g c = c.by_threads.ensures.plan ∙ c.take_client_orders-ordered.ensures.goes.plan

pub returns-in-Err-clause-plan : goal.returns-in-Err-clause-plan
returns-in-Err-clause-plan g c = c.take_client_orders-ordered.ensures.goes.plan

pub returns-in-Err-clause-crawls : goal.returns-in-Err-clause-crawls
returns-in-Err-clause-crawls g c = c.take_client_orders-ordered.ensures.goes.crawl ∙ c.requires.crawls
