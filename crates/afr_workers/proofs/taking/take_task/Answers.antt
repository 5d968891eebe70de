-- Nothing, a stop, or an item.
use Rattle.std.proofs.Common.{◌∙◌, ℕ, ap, refl, subst, sym}
use Rattle.std.specs.Prelude.{Contains}
use Rattle.afr_tasks.specs.Exchange.{Exchange, with_taken}
use Rattle.afr_tasks.specs.declared.rule.Task.{Task}
use Rattle.afr_workers.specs.Workshop.{GivesItem, TakesTask, TookItem, TookNothing, TookStop}
use Rattle.afr_workers.proofs.WorkshopLemmas.{is_worker}
use Rattle.afr_workers.proofs.taking.take_task.Goals as goal

pub returns-in_default-clause-takes : goal.returns-in_default-clause-takes
returns-in_default-clause-takes c = subst (λ (t : Exchange). TakesTask c.args.worker c.args.volume.now c.args.volume.now c.args.no_memory.now c.args.tasks.now t) (sym (c.take.ensures.none c.in_default.is)) (TookNothing refl)

pub returns-in-Stop-clause-takes : goal.returns-in-Stop-clause-takes
returns-in-Stop-clause-takes c =
    subst (λ (t : Exchange). TakesTask c.args.worker c.args.volume.now c.args.volume.now c.args.no_memory.now c.args.tasks.now t)
    (sym (c.in-Some.ensures.some c.in-Some.task refl ∙ ap (λ (task : Task). with_taken c.args.worker task c.args.tasks.now) c.in-Stop.is)) (TookStop refl)

pub give-requires-clause-worker : goal.give-requires-clause-worker
give-requires-clause-worker c = is_worker c.args.worker c.args.a.0 c.requires.worker

pub give-requires-clause-given : goal.give-requires-clause-given
give-requires-clause-given c = c.requires.given (c.in-Heal.gfid, c.in-Heal.what) (subst (λ (task : Task). Contains c.args.tasks.now.put task) c.in-Heal.is c.in-Some.ensures.known)

pub returns-in-Heal-clause-takes : goal.returns-in-Heal-clause-takes
returns-in-Heal-clause-takes c =
    subst (λ (t : Exchange). TakesTask c.args.worker c.args.volume.now c.give.new.volume c.give.new.no_memory c.args.tasks.now t)
    (sym (c.in-Some.ensures.some c.in-Some.task refl ∙ ap (λ (task : Task). with_taken c.args.worker task c.args.tasks.now) c.in-Heal.is))
    (TookItem (c.in-Heal.gfid, c.in-Heal.what) (subst (λ (a : ℕ). GivesItem a (c.in-Heal.gfid, c.in-Heal.what) c.args.volume.now c.give.new.volume c.give.new.no_memory) c.requires.worker c.give.ensures.gives))
