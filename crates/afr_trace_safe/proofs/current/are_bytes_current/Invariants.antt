use Rattle.std.proofs.Common.{reverse}
use Rattle.afr_trace_safe.specs.Covered.{AreBytesCurrent}
use Rattle.afr_trace_safe.proofs.current.are_bytes_current.Given as goal

abbrev pub invariant-loop-i : goal.invariant-loop-i
invariant-loop-i l = AreBytesCurrent l.plan (reverse l.log) l.b.0 l.g l.i
