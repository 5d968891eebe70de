use Rattle.std.proofs.Common.{◌≡◌, take, reverse}
use Rattle.afr_lines.specs.Work.{work}
use Rattle.afr_model.specs.Showing.{looked_by}
use Rattle.afr_trace_check.specs.Works.{in_work}
use Rattle.afr_trace_check.proofs.showing.looked_by.Given as goal

abbrev pub invariant-loop-position : goal.invariant-loop-position
invariant-loop-position l = l.looked ≡ looked_by l.g (in_work l.heal (work l.a.0 (reverse (take l.position l.log))))
