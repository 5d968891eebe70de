use Rattle.std.proofs.Common.{◌∙◌, sym}
use Rattle.afr_workers.proofs.threads.in_threads.Goals as goal

pub run_crowd-shared-requires-clause-actors : goal.run_crowd-shared-requires-clause-actors
run_crowd-shared-requires-clause-actors g c = λ ks live. c.requires.actors

pub returns-clause-plan : goal.returns-clause-plan
returns-clause-plan g c = c.finish.ensures.plan ∙ c.into_shop.ensures.plan ∙ sym c.requires.name
