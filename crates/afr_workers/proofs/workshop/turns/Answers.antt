-- A line leaves what was put and taken.
use Rattle.afr_workers.proofs.WorkshopLemmas.{shop_turned}
use Rattle.afr_workers.proofs.workshop.turns.Goals as goal

pub returns : goal.returns
returns g c = shop_turned c.args.x.now c.args.a c.take_turn-turned.new.volume c.take_turn-turned.new.no_memory c.after.new.held c.take_turn-turned.ensures.turned c.take_turn-turned.ensures.noted c.requires.shop
