-- The item that comes next is put behind those before it.
use Rattle.std.proofs.Common.{arith}
use Rattle.afr_workers.proofs.WorkshopLemmas.{kept_here, shop_puts}
use Rattle.afr_workers.proofs.putting.put_next.Goals as goal

pub returns-then-x-gt0-clause-kept : goal.returns-then-x-gt0-clause-kept
returns-then-x-gt0-clause-kept c = kept_here c.args.x.now c.requires

pub next_item-requires : goal.next_item-requires
next_item-requires c = c.requires.placed.crawls

pub returns-in_default-clause-kept : goal.returns-in_default-clause-kept
returns-in_default-clause-kept c = kept_here c.args.x.now c.requires

pub returns-clause-kept : goal.returns-clause-kept
returns-clause-kept c = shop_puts c.args.x.now c.put_item.new.tasks c.put_item.new.crew c.in-Some.next.round c.in-Some.next.at (c.in-Some.next.gfid, c.in-Some.next.what) c.in-Some.ensures.some (omega arith) c.put_item.ensures c.requires
