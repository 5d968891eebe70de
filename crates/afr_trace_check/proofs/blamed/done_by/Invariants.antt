use Rattle.std.proofs.Common.{◌≡◌, take, reverse}
use Rattle.afr_trace_check.specs.Grounds.{doing, over}
use Rattle.afr_trace_check.proofs.blamed.done_by.Given as goal

abbrev pub invariant-loop-position : goal.invariant-loop-position
invariant-loop-position l = l.bricks ≡ over (doing l.attempt) (reverse (take l.position l.log))
