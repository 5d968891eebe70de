use Rattle.std.proofs.Common.{◌≡◌, ◌==◌, take}
use Rattle.std.specs.List.{list_all}
use Rattle.afr_plan.specs.Bytes.{hex_digit}
use Rattle.afr_plan_line.proofs.bytes.are_hex_digits.Given as goal

abbrev pub invariant-loop-b : goal.invariant-loop-b
invariant-loop-b l = (l.odd == 0) ≡ list_all hex_digit (take l.b-index l.bytes)
