use Rattle.std.proofs.Common.{◌∙◌}
use Rattle.afr_volume.proofs.PlainLemmas.{plain_right}
use Rattle.afr_order.proofs.take_orders.Goals as goal

pub returns-clause-right : goal.returns-clause-right
returns-clause-right g c = plain_right c.all_orders-taken.new.volume (c.all_orders-taken.ensures.goes.crawl ∙ c.requires.plain) c.every_line.ensures.right
