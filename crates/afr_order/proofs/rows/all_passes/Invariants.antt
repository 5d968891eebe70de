use Rattle.std.proofs.Common.{◌-◌, ℕ, length}
use Rattle.afr_model.specs.Ordered.{actors_of, passes}
use Rattle.afr_volume.specs.Right.{KeepsChosen}
use Rattle.afr_volume.specs.Going.{ClientsAreDone, Goes, Takes}
use Rattle.afr_order.specs.Onward.{Extends}
use Rattle.afr_order.proofs.rows.all_passes.Given as goal

abbrev pub invariant-loop-volume : goal.invariant-loop-volume
invariant-loop-volume g l = record {
  goes : Goes l.fn.volume l.volume;
  onto : Extends l.fn.volume.log l.volume.log;
  taken : (rounds : ℕ) × Takes l.fn.volume.plan (passes rounds (actors_of l.fn.volume.plan)) l.fn.volume.log l.volume.log;
  chosen : KeepsChosen g.F.Fn g.G.Fn l.fn.rules l.fn.volume l.volume;
  done : ClientsAreDone l.done l.volume;
}

abbrev pub decreases-loop-volume : goal.decreases-loop-volume
decreases-loop-volume g l = l.volume.plan.turns - length l.volume.log
