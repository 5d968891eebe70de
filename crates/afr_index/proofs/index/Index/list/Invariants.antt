-- So many of the row are put in.
use Rattle.std.proofs.Common.{◌≡◌, take}
use Rattle.afr_index.specs.Listed.{with_all}
use Rattle.afr_index.proofs.index.Index.list.Given as goal

abbrev pub invariant-loop-entry : goal.invariant-loop-entry
invariant-loop-entry l = l.list.items ≡ with_all (take l.entry-index l.entry-items) l.initial.list.items
