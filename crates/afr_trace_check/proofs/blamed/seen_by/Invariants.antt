use Rattle.std.proofs.Common.{◌≡◌, take, reverse}
use Rattle.afr_lines.specs.Work.{work}
use Rattle.afr_model.specs.Showing.{looked_by}
use Rattle.afr_trace_check.specs.Grounds.{after_last, locks_object}
use Rattle.afr_trace_check.proofs.blamed.seen_by.Given as goal

abbrev pub invariant-loop-position : goal.invariant-loop-position
invariant-loop-position l = l.looked ≡ looked_by l.g (after_last (locks_object l.g) (work l.a.0 (reverse (take l.position l.log))))
