use Rattle.std.proofs.Common.{◌≡◌, take, filter}
use Rattle.afr_base.specs.Bricks.{all_five}
use Rattle.afr_choice.specs.Verdict.{is_holder}
use Rattle.afr_choice.proofs.verdict.holders.Given as goal

abbrev pub invariant-loop-b : goal.invariant-loop-b
invariant-loop-b l = l.set ≡ filter (is_holder l.looked) (take l.b all_five)
