use Rattle.std.proofs.Common.{◌≡◌}
use Rattle.afr_plan.specs.Names.{file_names}
use Rattle.afr_plan_read.proofs.names.NameTable.of_files.Given as goal

abbrev pub invariant-loop-i : goal.invariant-loop-i
invariant-loop-i l = l.names ≡ file_names l.i
