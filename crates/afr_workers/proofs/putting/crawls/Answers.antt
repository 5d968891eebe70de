-- The crawler puts, and then is over or adds a line.
use Rattle.std.proofs.Common.{arith}
use Rattle.afr_model.specs.Actors.{Healer}
use Rattle.afr_workers.proofs.WorkshopLemmas.{kept_then}
use Rattle.afr_workers.proofs.putting.crawls.Goals as goal

pub put_all-requires : goal.put_all-requires
put_all-requires g c = c.requires.shop

pub is_over-requires : goal.is_over-requires
is_over-requires g c = let many = c.put_all.ensures.kept.shop.placed.can.healers in Healer (omega arith) (omega (arith, many))

pub end_puts-requires-clause-shop : goal.end_puts-requires-clause-shop
end_puts-requires-clause-shop g c = c.put_all.ensures.kept.shop

pub end_puts-requires-clause-over : goal.end_puts-requires-clause-over
end_puts-requires-clause-over g c = c.is_over.ensures c.if-is_over.true

pub turns-requires-clause-actor : goal.turns-requires-clause-actor
turns-requires-clause-actor g c = let many = c.put_all.ensures.kept.shop.placed.can.healers in Healer (omega arith) (omega (arith, many))

pub turns-requires-clause-none : goal.turns-requires-clause-none
turns-requires-clause-none g c = rw c.put_all.ensures.volume c.requires.none

pub turns-requires-clause-shop : goal.turns-requires-clause-shop
turns-requires-clause-shop g c = c.put_all.ensures.kept.shop

pub returns-then-is_over : goal.returns-then-is_over
returns-then-is_over g c = kept_then c.args.x.now c.put_all.new.x c.end_puts.new.x c.put_all.ensures.kept c.end_puts.ensures

pub returns : goal.returns
returns g c = kept_then c.args.x.now c.put_all.new.x c.turns.new.x c.put_all.ensures.kept c.turns.ensures
