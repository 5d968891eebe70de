use Rattle.std.proofs.Common.{◌-◌, drop}
use Rattle.afr_heal_merge.specs.Merging.{AreAll}
use Rattle.afr_heal_merge.proofs.common.are_all.Given as goal

abbrev pub invariant-loop-i : goal.invariant-loop-i
invariant-loop-i l = AreAll l.names (drop (5 - l.i) l.lists)
