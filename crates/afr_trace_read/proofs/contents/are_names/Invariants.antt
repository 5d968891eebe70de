use Rattle.std.proofs.Common.{◌≡◌, None, is_some, length}
use Rattle.afr_trace_read.specs.Contents.{names_told}
use Rattle.afr_trace_read.proofs.contents.are_names.Given as goal

abbrev pub invariant-loop-rest : goal.invariant-loop-rest
invariant-loop-rest l = is_some (names_told l.plan l.last l.rest) ≡ is_some (names_told l.plan None l.fn.text)

abbrev pub decreases-loop-rest : goal.decreases-loop-rest
decreases-loop-rest l = length l.rest
