-- The events that have come leave what was put and taken.
use Rattle.afr_workers.proofs.WorkshopLemmas.{shop_comes}
use Rattle.afr_workers.proofs.workshop.events.Goals as goal

pub come_all-requires : goal.come_all-requires
come_all-requires c = c.requires.placed

pub returns-clause-kept : goal.returns-clause-kept
returns-clause-kept c =
    shop_comes c.args.x.now c.come_all.new.volume c.come_all.new.crew c.come_all.new.no_memory c.come_all.new.held
    c.come_all.ensures.happens c.come_all.ensures.placed c.come_all.ensures.round c.come_all.ensures.at c.come_all.ensures.noted c.requires
