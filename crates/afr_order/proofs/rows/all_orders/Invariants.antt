use Rattle.std.proofs.Common.{take}
use Rattle.afr_model.specs.Ordered.{ordered_turns}
use Rattle.afr_volume.specs.Right.{KeepsChosen}
use Rattle.afr_volume.specs.Going.{Goes, Takes}
use Rattle.afr_order.proofs.rows.all_orders.Given as goal

abbrev pub invariant-loop-i : goal.invariant-loop-i
invariant-loop-i g l = record {
  goes : Goes l.fn.volume l.volume;
  taken : Takes l.fn.volume.plan (ordered_turns (take l.i l.fn.volume.plan.go)) l.fn.volume.log l.volume.log;
  chosen : KeepsChosen g.F.Fn g.G.Fn l.fn.rules l.fn.volume l.volume;
}
