use Rattle.std.proofs.Common.{◌≡◌, take, reverse}
use Rattle.afr_lines.specs.Work.{work}
use Rattle.afr_model.specs.Showing.{among, has}
use Rattle.afr_model.specs.Standing.{since}
use Rattle.afr_trace_check.specs.Grounds.{asks_lock, refusing}
use Rattle.afr_trace_check.proofs.blamed.refused_by.Given as goal

abbrev pub invariant-loop-position : goal.invariant-loop-position
invariant-loop-position l = record {
  locked : l.locked ≡ has asks_lock (work l.a.0 (reverse (take l.position l.log)));
  bricks : l.bricks ≡ among refusing (since asks_lock (work l.a.0 (reverse (take l.position l.log))));
}
