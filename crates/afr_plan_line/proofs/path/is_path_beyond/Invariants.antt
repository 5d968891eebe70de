use Rattle.std.proofs.Common.{◌≡◌, ◌≤◌, ◌+◌, length}
use Rattle.std.specs.List.{list_any}
use Rattle.afr_plan.specs.Paths.{names_in}
use Rattle.afr_plan.specs.Rules.{is_long}
use Rattle.afr_plan_line.proofs.path.is_path_beyond.Given as goal

abbrev pub invariant-loop-name : goal.invariant-loop-name
invariant-loop-name l = record {
  few : l.count ≤ 16;
  all : l.count + length l.names ≡ length (names_in l.path);
  long : list_any is_long l.names ≡ list_any is_long (names_in l.path);
}

abbrev pub decreases-loop-name : goal.decreases-loop-name
decreases-loop-name l = length l.names
