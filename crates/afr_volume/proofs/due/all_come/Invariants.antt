use Rattle.std.proofs.Common.{[], ◌-◌, length}
use Rattle.afr_volume.specs.Going.{Goes, IsHappening, Takes}
use Rattle.afr_volume.proofs.due.all_come.Given as goal

abbrev pub invariant-loop-volume : goal.invariant-loop-volume
invariant-loop-volume l = record {
  goes : Goes l.fn.volume l.volume;
  taken : Takes l.fn.volume.plan [] l.fn.volume.log l.volume.log;
  happens : IsHappening l.fn.volume l.volume;
}

abbrev pub decreases-loop-volume : goal.decreases-loop-volume
decreases-loop-volume l = l.volume.plan.turns - length l.volume.log
