use Rattle.std.proofs.Common.{ℕ, ◌<◌, reverse}
use Rattle.afr_trace_safe.specs.Judged.{IsBrickSafe}
use Rattle.afr_trace_safe.proofs.objects.is_object_safe.Given as goal

abbrev pub invariant-loop-b : goal.invariant-loop-b
invariant-loop-b l = (k : ℕ) → k < l.b → IsBrickSafe l.plan (reverse l.log) l.g k
