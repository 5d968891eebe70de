use Rattle.std.proofs.Common.{◌≡◌, drop, reverse}
use Rattle.afr_trace_safe.specs.Attempts.{stands}
use Rattle.afr_trace_safe.specs.Seen.{cell_of, value_seen}
use Rattle.afr_trace_safe.proofs.attempts.stands.Given as goal

abbrev pub invariant-loop-attempt : goal.invariant-loop-attempt
invariant-loop-attempt l = stands (reverse l.log) (cell_of l.cell) (value_seen l.value) l.opening l.attempts ≡ stands (reverse l.log) (cell_of l.cell) (value_seen l.value) l.opening (drop l.attempt-index l.attempts)
