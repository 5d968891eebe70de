use Rattle.std.proofs.Common.{◌-◌, length, drop}
use Rattle.std.specs.List.Sorted.{IsStrictlySortedBy}
use Rattle.std.specs.Map.{keys_of}
use Rattle.afr_object.specs.Tables.{name_cmp}
use Rattle.afr_heal_merge.proofs.same.is_rising.Given as goal

abbrev pub invariant-loop-i : goal.invariant-loop-i
invariant-loop-i l = IsStrictlySortedBy name_cmp (keys_of (drop (length l.names - l.i) l.names))
