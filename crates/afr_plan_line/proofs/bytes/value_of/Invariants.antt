use Rattle.std.proofs.Common.{◌≡◌, take}
use Rattle.afr_plan.specs.Bytes.{value}
use Rattle.afr_plan_line.proofs.bytes.value_of.Given as goal

abbrev pub invariant-loop-d : goal.invariant-loop-d
invariant-loop-d l = l.n ≡ value (take l.d-index l.ds)
