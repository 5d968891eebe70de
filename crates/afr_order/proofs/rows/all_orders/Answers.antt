use Rattle.std.proofs.Common.{◌+◌, ◌≡◌, Some, true, arith, replicate, take}
use Rattle.std.specs.Prelude.{slice_get}
use Rattle.std.proofs.lemmas.Grind.{common_steps}
use Rattle.afr_model.specs.Ordered.{ordered_turns}
use Rattle.afr_volume.proofs.GoingLemmas.{goes_then, takes_then, front_then, ends_true}
use Rattle.afr_order.proofs.OrderLemmas.{orders_more, front_of_orders}
use Rattle.afr_order.proofs.rows.all_orders.Goals as goal

pub returns-in_err-take_turns-clause-front : goal.returns-in_err-take_turns-clause-front
returns-in_err-take_turns-clause-front g c =
    let at : slice_get c.args.volume.now.plan.go c.loop-i.i ≡ Some c.item-go.result.now = rw (c.plan-in-loop-i.ensures, c.loop-i.invariant.goes.plan) at c.item-go.ensures in
    front_of_orders c.args.volume.now.plan c.args.volume.now.log c.take_turns.new.volume.log c.args.volume.now.plan.go (c.loop-i.i + 1)
    (rw (orders_more _ _ _ at) (front_then c.args.volume.now c.loop-i.volume c.take_turns.new.volume (ordered_turns (take c.loop-i.i c.args.volume.now.plan.go)) (replicate c.item-go.result.now.count c.item-go.result.now.actor.0) c.loop-i.invariant.goes c.loop-i.invariant.taken c.take_turns.ensures.front))

pub returns-then-not-branch-clause-front : goal.returns-then-not-branch-clause-front
returns-then-not-branch-clause-front g c =
    let at : slice_get c.args.volume.now.plan.go c.loop-i.i ≡ Some c.item-go.result.now = rw (c.plan-in-loop-i.ensures, c.loop-i.invariant.goes.plan) at c.item-go.ensures in
    front_of_orders c.args.volume.now.plan c.args.volume.now.log c.take_turns.new.volume.log c.args.volume.now.plan.go (c.loop-i.i + 1)
    (rw (orders_more _ _ _ at) (front_then c.args.volume.now c.loop-i.volume c.take_turns.new.volume (ordered_turns (take c.loop-i.i c.args.volume.now.plan.go)) (replicate c.item-go.result.now.count c.item-go.result.now.actor.0) c.loop-i.invariant.goes c.loop-i.invariant.taken c.take_turns.ensures.front))

pub loop-i-preserved : goal.loop-i-preserved
loop-i-preserved g c =
    let at : slice_get c.args.volume.now.plan.go c.loop-i.i ≡ Some c.item-go.result.now = rw (c.plan-in-loop-i.ensures, c.loop-i.invariant.goes.plan) at c.item-go.ensures in
    let on : c.in_ok-take_turns.field-0 ≡ true = grind (arith, common_steps) in
    record {
      goes = goes_then c.args.volume.now c.loop-i.volume c.take_turns.new.volume c.loop-i.invariant.goes c.take_turns.ensures.goes;
      taken = rw (orders_more _ _ _ at) (takes_then c.args.volume.now c.loop-i.volume c.take_turns.new.volume (ordered_turns (take c.loop-i.i c.args.volume.now.plan.go)) (replicate c.item-go.result.now.count c.item-go.result.now.actor.0) c.loop-i.invariant.goes c.loop-i.invariant.taken (ends_true c.loop-i.volume c.take_turns.new.volume _ _ on c.in_ok-take_turns.ensures.ok));
      chosen = λ h. c.take_turns.ensures.chosen (c.loop-i.invariant.chosen h);
    }
