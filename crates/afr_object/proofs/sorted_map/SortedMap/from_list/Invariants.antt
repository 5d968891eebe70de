use Rattle.std.proofs.Common.{◌≡◌, ◌-◌, length, drop}
use Rattle.afr_object.proofs.sorted_map.SortedMap.from_list.Given as goal

abbrev pub invariant-loop-i : goal.invariant-loop-i
invariant-loop-i g l = l.map ≡ drop (length l.entries - l.i) l.entries
