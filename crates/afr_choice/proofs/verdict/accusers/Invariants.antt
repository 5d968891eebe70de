use Rattle.std.proofs.Common.{◌≡◌, take, filter}
use Rattle.afr_base.specs.Bricks.{all_five}
use Rattle.afr_choice.specs.Verdict.{accuses_at}
use Rattle.afr_choice.proofs.verdict.accusers.Given as goal

abbrev pub invariant-loop-x : goal.invariant-loop-x
invariant-loop-x l = l.set ≡ filter (λ x. accuses_at l.kind x l.c.0 l.looked) (take l.x all_five)
