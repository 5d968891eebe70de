use Rattle.std.proofs.Common.{◌≡◌, take}
use Rattle.std.specs.List.{list_all}
use Rattle.afr_plan.specs.Bytes.{plain}
use Rattle.afr_plan_line.proofs.bytes.is_plain.Given as goal

abbrev pub invariant-loop-b : goal.invariant-loop-b
invariant-loop-b l = l.all ≡ list_all plain (take l.b-index l.bytes)
