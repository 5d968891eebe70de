use Rattle.std.proofs.Common.{◌≡◌, ◌≤◌, ◌-◌, length}
use Rattle.afr_volume.specs.Going.{IsHappening}
use Rattle.afr_workers.specs.Crew.{IsCrew, IsPlaced, IsStill, Leads}
use Rattle.afr_workers.proofs.due.come.Given as goal

abbrev pub invariant-loop-event : goal.invariant-loop-event
invariant-loop-event l = record {
  placed : IsPlaced l.crew l.volume;
  crew : IsCrew l.fn.crew l.fn.volume → IsCrew l.crew l.volume;
  happens : IsHappening l.fn.volume l.volume;
  round : l.crew.round ≡ l.fn.crew.round;
  at : l.crew.at ≡ l.fn.crew.at;
  leads : Leads l.fn.volume l.volume;
  still : length l.volume.log ≤ length l.fn.volume.log → IsStill l.fn.volume l.fn.crew l.volume l.crew;
}

abbrev pub decreases-loop-event : goal.decreases-loop-event
decreases-loop-event l = l.volume.plan.turns - length l.volume.log
