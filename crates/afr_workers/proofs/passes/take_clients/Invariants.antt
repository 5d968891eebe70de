use Rattle.std.proofs.Common.{◌≡◌, ◌+◌, ◌<◌, ◌≤◌, ℕ, length, true}
use Rattle.afr_volume.specs.Tasks.{is_done_in}
use Rattle.afr_workers.specs.Crew.{IsCrew, IsStill, Leads}
use Rattle.afr_workers.proofs.passes.take_clients.Given as goal

abbrev pub invariant-loop-i : goal.invariant-loop-i
invariant-loop-i g l = record {
  crew : IsCrew l.crew l.volume;
  leads : Leads l.fn.volume l.volume;
  still : length l.volume.log ≤ length l.fn.volume.log → IsStill l.fn.volume l.fn.crew l.volume l.crew;
  done : length l.volume.log ≤ length l.fn.volume.log → (k : ℕ) → k < l.i → is_done_in (1 + k) l.volume ≡ true;
}
