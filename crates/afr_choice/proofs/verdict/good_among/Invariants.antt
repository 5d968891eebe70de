use Rattle.std.proofs.Common.{◌≡◌, take, filter}
use Rattle.afr_base.specs.Bricks.{all_five}
use Rattle.afr_choice.specs.Verdict.{is_good}
use Rattle.afr_choice.proofs.verdict.good_among.Given as goal

abbrev pub invariant-loop-b : goal.invariant-loop-b
invariant-loop-b l = l.set ≡ filter (is_good l.shape l.looked l.kind) (take l.b all_five)
