use Rattle.std.proofs.Common.{◌≡◌, ◌++◌, map, drop}
use Rattle.std.specs.Prelude.{string_bytes}
use Rattle.afr_plan_print.specs.PrintedLine.{lines_text}
use Rattle.afr_plan_print.specs.PrintedPlan.{said_fault}
use Rattle.afr_plan_print.proofs.schedule.push_faults.Given as goal

abbrev pub invariant-loop-fault : goal.invariant-loop-fault
invariant-loop-fault l = string_bytes l.out ++ lines_text (map said_fault (drop l.fault-index l.faults)) ≡ string_bytes l.fn.out ++ lines_text (map said_fault l.faults)
