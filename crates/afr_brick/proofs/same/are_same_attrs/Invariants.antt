use Rattle.std.proofs.Common.{◌≡◌, ◌-◌, length, drop}
use Rattle.afr_brick.proofs.same.are_same_attrs.Given as goal

abbrev pub invariant-loop-i : goal.invariant-loop-i
invariant-loop-i l = drop (length l.one - l.i) l.one ≡ drop (length l.one - l.i) l.other
