use Rattle.std.proofs.Common.{◌≡◌, None, length}
use Rattle.std.specs.Prelude.{option_map}
use Rattle.afr_trace_build.proofs.NameLaws.{behind}
use Rattle.afr_trace_read.specs.Contents.{names_told}
use Rattle.afr_trace_build.proofs.given.names_told.Given as goal

abbrev pub invariant-loop-rest : goal.invariant-loop-rest
invariant-loop-rest l = option_map (behind l.names.items) (names_told l.plan l.last l.rest) ≡ names_told l.plan None l.fn.text

abbrev pub decreases-loop-rest : goal.decreases-loop-rest
decreases-loop-rest l = length l.rest
