-- What was taken is the worker's, and was put.
use Rattle.std.proofs.Common.{◌∙◌, arith}
use Rattle.crossbeam_queue.specs.Passes.{view}
use Rattle.afr_tasks.proofs.Balances.{takes}
use Rattle.afr_tasks.proofs.TasksLemmas.{parts_of, put_before, taken_one, takes_only}
use Rattle.afr_tasks.proofs.tasks.take_as.Goals as goal

pub try_pop_as-requires-clause-rule : goal.try_pop_as-requires-clause-rule
try_pop_as-requires-clause-rule c = takes _ _ (omega (arith, parts_of c.requires.worker.1))

pub tell-requires-clause-worker : goal.tell-requires-clause-worker
tell-requires-clause-worker c = (
  (c.in-Some.ensures.queue.0 ∙ c.requires.worker.0.0, c.in-Some.ensures.queue.2 ∙ c.requires.worker.0.1),
  takes_only (view c.try_pop_as.new.pass) _ (taken_one (view c.args.worker.now) (view c.try_pop_as.new.pass) c.in-Some.task c.requires.worker.1 c.in-Some.ensures.rule),
)

pub returns-clause-some : goal.returns-clause-some
returns-clause-some c = c.tell.ensures.worker ∙ taken_one (view c.args.worker.now) (view c.try_pop_as.new.pass) c.in-Some.task c.requires.worker.1 c.in-Some.ensures.rule

pub returns-clause-known : goal.returns-clause-known
returns-clause-known c = put_before (view c.args.crawler.now) (view c.args.worker.now) (view c.try_pop_as.new.pass) c.in-Some.task c.in-Some.ensures.rule c.tell.ensures.known
