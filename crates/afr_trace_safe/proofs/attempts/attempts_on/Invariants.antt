use Rattle.std.proofs.Common.{◌≡◌, ◌++◌, ◌-◌, length, reverse}
use Rattle.afr_trace_safe.specs.Attempts.{attempts_on}
use Rattle.afr_trace_safe.proofs.attempts.attempts_on.Given as goal

abbrev pub invariant-loop-i : goal.invariant-loop-i
invariant-loop-i l = l.found.items ++ attempts_on (reverse l.log) l.g (length l.log - l.i) ≡ attempts_on (reverse l.log) l.g (length l.log)
