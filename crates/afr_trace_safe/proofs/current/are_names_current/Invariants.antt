use Rattle.std.proofs.Common.{◌≡◌, ◌<◌, ℕ, Some, reverse, slice_get}
use Rattle.afr_base.specs.declared.ids.NameId.{NameId}
use Rattle.afr_object.specs.declared.entry.Entry.{Entry}
use Rattle.afr_model.specs.Attempts.{IsCurrent}
use Rattle.afr_model.specs.Cells.{Name}
use Rattle.afr_trace_safe.proofs.current.are_names_current.Given as goal

abbrev pub invariant-loop-x : goal.invariant-loop-x
invariant-loop-x l = (j : ℕ) → j < l.x-index → (x : NameId × Entry) → slice_get l.names j ≡ Some x → IsCurrent l.plan (reverse l.log) l.b.0 (Name l.g x.0)
