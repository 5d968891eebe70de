use Rattle.std.proofs.Common.{◌≡◌, length}
use Rattle.std.specs.List.{list_all}
use Rattle.afr_plan.specs.Bytes.{is_name}
use Rattle.afr_plan.specs.Paths.{names_in}
use Rattle.afr_plan_line.proofs.path.are_names.Given as goal

abbrev pub invariant-loop-name : goal.invariant-loop-name
invariant-loop-name l = list_all is_name l.names ≡ list_all is_name (names_in l.path)

abbrev pub decreases-loop-name : goal.decreases-loop-name
decreases-loop-name l = length l.names
