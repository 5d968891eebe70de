use Rattle.std.proofs.Common.{◌≡◌, take, reverse}
use Rattle.afr_lines.specs.Work.{work}
use Rattle.afr_model.specs.Showing.{begun_by}
use Rattle.afr_trace_check.proofs.blamed.begun_by.Given as goal

abbrev pub invariant-loop-position : goal.invariant-loop-position
invariant-loop-position l = l.begun ≡ begun_by (work l.a.0 (reverse (take l.position l.log)))
