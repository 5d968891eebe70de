use Rattle.std.proofs.Common.{◌≡◌, ◌-◌, drop}
use Rattle.afr_object.specs.Repairs.{merged}
use Rattle.afr_heal_merge.specs.Merging.{present}
use Rattle.afr_heal_merge.proofs.merge.merge_all.Given as goal

abbrev pub invariant-loop-i : goal.invariant-loop-i
invariant-loop-i l = l.names ≡ merged (present (drop (5 - l.i) l.lists))
