use Rattle.std.proofs.Common.{◌≡◌, ◌==◌, take}
use Rattle.std.specs.List.{list_all}
use Rattle.afr_plan.specs.Bytes.{path_byte}
use Rattle.afr_plan_line.proofs.bytes.are_path_bytes.Given as goal

abbrev pub invariant-loop-b : goal.invariant-loop-b
invariant-loop-b l = (l.odd == 0) ≡ list_all path_byte (take l.b-index l.bytes)
