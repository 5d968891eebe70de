-- The crawler's pass has the worker's part for a moment, and both are as they were.
use Rattle.std.proofs.Common.{◌≡◌, ap, arith}
use Rattle.crossbeam_queue.specs.Passes.{Pass, view}
use Rattle.afr_tasks.specs.Balance.{hand}
use Rattle.afr_tasks.specs.declared.rule.Hand.{Hand}
use Rattle.afr_tasks.specs.declared.rule.Task.{Task}
use Rattle.afr_tasks.proofs.Balances.{cuts, knows, merges, spares}
use Rattle.afr_tasks.proofs.TasksLemmas.{crawler_again, known_of, parts_of, whole_is, worker_again}
use Rattle.afr_tasks.proofs.tasks.tell.Goals as goal

pub another-spare-requires-clause-rule : goal.another-spare-requires-clause-rule
another-spare-requires-clause-rule c = spares _ _

pub absorb-requires-clause-rule : goal.absorb-requires-clause-rule
absorb-requires-clause-rule c = merges _ _ _ _ (omega (arith, ap (λ (v : Hand). v.parts) c.another-spare.ensures.rule.0, parts_of c.requires.crawler.1))

pub learn_as-requires-clause-rule : goal.learn_as-requires-clause-rule
learn_as-requires-clause-rule c =
    let is : view c.absorb.new.pass ≡ hand 4 (view c.args.crawler.now).put (view c.args.worker.now).taken =
    whole_is _ _ _ _ _ c.requires.crawler.1 c.requires.worker.1 c.another-spare.ensures.rule.0 (ap (λ (p : Pass Task Hand). view p) c.replace-whole.ensures.value) c.absorb.ensures.rule in
    knows _ _ (omega (arith, ap (λ (v : Hand). v.parts) is))

pub another-requires-clause-rule : goal.another-requires-clause-rule
another-requires-clause-rule c =
    let is : view c.absorb.new.pass ≡ hand 4 (view c.args.crawler.now).put (view c.args.worker.now).taken =
    whole_is _ _ _ _ _ c.requires.crawler.1 c.requires.worker.1 c.another-spare.ensures.rule.0 (ap (λ (p : Pass Task Hand). view p) c.replace-whole.ensures.value) c.absorb.ensures.rule in
    cuts _ _ (omega (arith, ap (λ (v : Hand). v.parts) c.learn_as.ensures.queue.1, ap (λ (v : Hand). v.parts) is))

pub returns-clause-crawler : goal.returns-clause-crawler
returns-clause-crawler c =
    let is : view c.absorb.new.pass ≡ hand 4 (view c.args.crawler.now).put (view c.args.worker.now).taken =
    whole_is _ _ _ _ _ c.requires.crawler.1 c.requires.worker.1 c.another-spare.ensures.rule.0 (ap (λ (p : Pass Task Hand). view p) c.replace-whole.ensures.value) c.absorb.ensures.rule in
    crawler_again _ (view c.args.worker.now) _ _ _ c.requires.crawler.1 is c.learn_as.ensures.queue.1 c.another.ensures.rule.0

pub returns-clause-worker : goal.returns-clause-worker
returns-clause-worker c =
    let is : view c.absorb.new.pass ≡ hand 4 (view c.args.crawler.now).put (view c.args.worker.now).taken =
    whole_is _ _ _ _ _ c.requires.crawler.1 c.requires.worker.1 c.another-spare.ensures.rule.0 (ap (λ (p : Pass Task Hand). view p) c.replace-whole.ensures.value) c.absorb.ensures.rule in
    worker_again (view c.args.crawler.now) _ _ _ _ c.requires.worker.1 is c.learn_as.ensures.queue.1 c.another.ensures.rule.1

pub returns-clause-known : goal.returns-clause-known
returns-clause-known c =
    let is : view c.absorb.new.pass ≡ hand 4 (view c.args.crawler.now).put (view c.args.worker.now).taken =
    whole_is _ _ _ _ _ c.requires.crawler.1 c.requires.worker.1 c.another-spare.ensures.rule.0 (ap (λ (p : Pass Task Hand). view p) c.replace-whole.ensures.value) c.absorb.ensures.rule in
    known_of (view c.args.crawler.now) (view c.args.worker.now) _ is c.learn_as.ensures.rule.1
