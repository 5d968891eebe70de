use Rattle.std.proofs.Common.{arith}
use Rattle.afr_model.specs.Actors.{Healer}
use Rattle.afr_workers.proofs.WorkshopLemmas.{kept_then}
use Rattle.afr_workers.proofs.ending.pass_healers.Goals as goal

pub steps-requires-clause-actor : goal.steps-requires-clause-actor
steps-requires-clause-actor g c = let many = c.requires.shop.placed.can.healers in Healer (omega arith) (omega (arith, many))

pub steps-requires-2-clause-actor : goal.steps-requires-2-clause-actor
steps-requires-2-clause-actor g c = let many = c.steps.ensures.shop.placed.can.healers in Healer (omega arith) (omega (arith, many))

pub steps-requires-2-clause-shop : goal.steps-requires-2-clause-shop
steps-requires-2-clause-shop g c = c.steps.ensures.shop

pub steps-requires-3-clause-actor : goal.steps-requires-3-clause-actor
steps-requires-3-clause-actor g c = let many = c.steps-2.ensures.shop.placed.can.healers in Healer (omega arith) (omega (arith, many))

pub steps-requires-3-clause-shop : goal.steps-requires-3-clause-shop
steps-requires-3-clause-shop g c = c.steps-2.ensures.shop

pub returns : goal.returns
returns g c = kept_then c.args.x.now c.steps.new.x c.steps-3.new.x c.steps.ensures (kept_then c.steps.new.x c.steps-2.new.x c.steps-3.new.x c.steps-2.ensures c.steps-3.ensures)
