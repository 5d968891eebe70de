use Rattle.std.proofs.Common.{◌≡◌, ◌<◌, ℕ, Some, reverse, slice_get}
use Rattle.afr_trace_safe.specs.Covered.{IsTouchedCurrent}
use Rattle.afr_trace_safe.specs.declared.attempts.Attempt.{Attempt}
use Rattle.afr_trace_safe.proofs.current.are_touched_current.Given as goal

abbrev pub invariant-loop-attempt : goal.invariant-loop-attempt
invariant-loop-attempt l = (j : ℕ) → j < l.attempt-index → (x : Attempt) → slice_get l.attempts j ≡ Some x → IsTouchedCurrent l.plan (reverse l.log) l.b.0 l.kind x
