use Rattle.std.proofs.Common.{◌-◌, length}
use Rattle.afr_workers.specs.Crew.{IsCrew, Leads}
use Rattle.afr_workers.proofs.passes.all_passes.Given as goal

abbrev pub invariant-loop-volume : goal.invariant-loop-volume
invariant-loop-volume g l = record { crew : IsCrew l.crew l.volume; leads : Leads l.fn.volume l.volume }

abbrev pub decreases-loop-volume : goal.decreases-loop-volume
decreases-loop-volume g l = l.volume.plan.turns - length l.volume.log
