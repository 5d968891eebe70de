use Rattle.std.proofs.Common.{◌≡◌, ◌++◌, length}
use Rattle.afr_plan.specs.Names.{with_names}
use Rattle.afr_plan.specs.Paths.{names_in}
use Rattle.afr_plan.specs.PlanOf.{path_of}
use Rattle.afr_plan_read.proofs.paths.number_path.Given as goal

abbrev pub invariant-loop-name : goal.invariant-loop-name
invariant-loop-name l = record {
  ids : l.ids ++ path_of l.table l.names ≡ path_of l.fn.table (names_in l.path);
  table : with_names l.table l.names ≡ with_names l.fn.table (names_in l.path);
}

abbrev pub decreases-loop-name : goal.decreases-loop-name
decreases-loop-name l = length l.names
