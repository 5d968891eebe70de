use Rattle.std.proofs.Common.{◌≡◌, ◌≤◌, ◌<◌, ℕ, Some, reverse, slice_get}
use Rattle.afr_lines.specs.Log.{change_at}
use Rattle.afr_trace_safe.specs.Attempts.{end_of}
use Rattle.afr_trace_safe.specs.declared.attempts.Attempt.{Attempt}
use Rattle.afr_trace_safe.proofs.attempts.furthest.Given as goal

abbrev pub invariant-loop-attempt : goal.invariant-loop-attempt
invariant-loop-attempt l = record {
  least : l.least ≤ l.end;
  each : (j : ℕ) → j < l.attempt-index → (x : Attempt) → slice_get l.attempts j ≡ Some x → end_of (change_at x.position (reverse l.log)) ≤ l.end;
}
