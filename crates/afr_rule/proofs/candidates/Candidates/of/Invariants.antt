use Rattle.std.proofs.Common.{◌≡◌, ◌≤◌, filter, length, map, take}
use Rattle.afr_base.specs.Bricks.{all_five, member}
use Rattle.afr_rule.specs.Copies.{copy_in}
use Rattle.afr_rule.proofs.candidates.Candidates.of.Given as goal

abbrev pub invariant-loop-x : goal.invariant-loop-x
invariant-loop-x l = (l.copies ≡ map (copy_in l.looked) (filter (member l.set) (take l.x all_five))) × (length l.copies ≤ l.x)
