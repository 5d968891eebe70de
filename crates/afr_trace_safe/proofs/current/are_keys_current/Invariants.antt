use Rattle.std.proofs.Common.{◌≡◌, ◌<◌, ℕ, Some, reverse, slice_get}
use Rattle.afr_base.specs.declared.ids.KeyId.{KeyId}
use Rattle.afr_base.specs.declared.ids.ValueId.{ValueId}
use Rattle.afr_model.specs.Attempts.{IsCurrent}
use Rattle.afr_model.specs.Cells.{Attr}
use Rattle.afr_trace_safe.proofs.current.are_keys_current.Given as goal

abbrev pub invariant-loop-x : goal.invariant-loop-x
invariant-loop-x l = (j : ℕ) → j < l.x-index → (x : KeyId × ValueId) → slice_get l.attrs j ≡ Some x → IsCurrent l.plan (reverse l.log) l.b.0 (Attr l.g x.0)
