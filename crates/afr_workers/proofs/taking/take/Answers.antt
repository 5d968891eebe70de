-- What a worker takes is one task more of its own.
use Rattle.afr_workers.proofs.PutLemmas.{put_given}
use Rattle.afr_workers.proofs.WorkshopLemmas.{shop_took, took_due}
use Rattle.afr_workers.proofs.taking.take.Goals as goal

pub take_task-requires-clause-placed : goal.take_task-requires-clause-placed
take_task-requires-clause-placed c = c.requires.shop.placed

pub take_task-requires-clause-given : goal.take_task-requires-clause-given
take_task-requires-clause-given c = put_given c.args.x.now.volume c.args.x.now.crew.round c.args.x.now.crew.at c.args.x.now.stops c.args.x.now.tasks.put c.requires.shop.puts

pub returns-clause-kept : goal.returns-clause-kept
returns-clause-kept c = shop_took c.args.x.now c.take_task.new.volume c.take_task.new.tasks c.take_task.new.no_memory c.args.worker c.take_task.ensures.takes c.take_task.ensures.noted c.requires.shop

pub returns-clause-due : goal.returns-clause-due
returns-clause-due c = took_due c.args.worker c.args.x.now.volume c.take_task.new.volume c.take_task.new.no_memory c.args.x.now.tasks c.take_task.new.tasks c.take_task.ensures.takes
