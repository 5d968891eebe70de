use Rattle.std.proofs.Common.{◌≡◌, ℕ, ◌≤◌, length, drop}
use Rattle.afr_faults.specs.Planned.{fault_at}
use Rattle.afr_model.specs.Honest.{fault_in}
use Rattle.afr_server.proofs.planned.planned_faults.Given as goal

abbrev pub invariant-loop-left : goal.invariant-loop-left
invariant-loop-left l = record { within : l.left ≤ length l.faults; none : l.plan.requests ≡ 0; rest : (count : ℕ) → fault_at count l.plan ≡ fault_in (drop l.left l.faults) l.brick.0 count }

abbrev pub decreases-loop-left : goal.decreases-loop-left
decreases-loop-left l = l.left
