-- The log is that of a front of the orders, or of the orders and a front of the passes.
use Rattle.std.proofs.Common.{◌≡◌, true, arith}
use Rattle.std.proofs.lemmas.Grind.{common_steps}
use Rattle.afr_volume.proofs.GoingLemmas.{ends_true}
use Rattle.afr_order.proofs.OrderLemmas.{ordered_by_orders, ordered_by_passes}
use Rattle.afr_order.proofs.take_all.Goals as goal

pub returns-in_err-take_orders-clause-ordered : goal.returns-in_err-take_orders-clause-ordered
returns-in_err-take_orders-clause-ordered g c = rw c.take_orders.ensures.goes.plan (ordered_by_orders c.args.volume.now.plan c.args.volume.now.log c.take_orders.new.volume.log c.requires.fresh c.take_orders.ensures.front)

pub returns-clause-ordered : goal.returns-clause-ordered
returns-clause-ordered g c = rw c.take_orders.ensures.goes.plan (ordered_by_orders c.args.volume.now.plan c.args.volume.now.log c.take_orders.new.volume.log c.requires.fresh c.take_orders.ensures.front)

pub returns-then-branch-clause-ordered : goal.returns-then-branch-clause-ordered
returns-then-branch-clause-ordered g c =
    let on : c.in_ok-take_orders.field-0 ≡ true = grind (arith, common_steps) in
    rw (c.take_passes.ensures.goes.plan, c.take_orders.ensures.goes.plan)
    (ordered_by_passes c.args.volume.now c.take_orders.new.volume c.take_passes.new.volume c.requires.fresh c.take_orders.ensures.goes (ends_true c.args.volume.now c.take_orders.new.volume _ _ on c.in_ok-take_orders.ensures.ok) c.take_passes.ensures.front)
