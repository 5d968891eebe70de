use Rattle.std.proofs.Common.{◌≡◌, ℕ, ◌<◌, Some, reverse, slice_get}
use Rattle.afr_base.specs.declared.ids.Gfid.{Gfid}
use Rattle.afr_trace_safe.specs.Judged.{IsObjectSafe}
use Rattle.afr_trace_safe.proofs.objects.are_objects_safe.Given as goal

abbrev pub invariant-loop-g : goal.invariant-loop-g
invariant-loop-g l = (j : ℕ) → j < l.g-index → (g : Gfid) → slice_get l.objects j ≡ Some g → IsObjectSafe l.plan (reverse l.log) g
