use Rattle.std.proofs.Common.{◌≡◌, ◌-◌, length, drop}
use Rattle.afr_object.specs.Repairs.{merged_into}
use Rattle.afr_heal_merge.proofs.merge.put_all.Given as goal

abbrev pub invariant-loop-i : goal.invariant-loop-i
invariant-loop-i l = l.names ≡ merged_into l.fn.names (drop (length l.list - l.i) l.list)
