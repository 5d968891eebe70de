use Rattle.std.proofs.Common.{◌≡◌, ◌++◌, map, drop}
use Rattle.std.specs.Prelude.{string_bytes}
use Rattle.afr_plan_print.specs.PrintedLine.{lines_text}
use Rattle.afr_plan_print.specs.PrintedPlan.{said_command}
use Rattle.afr_plan_print.proofs.print.push_script.Given as goal

abbrev pub invariant-loop-command : goal.invariant-loop-command
invariant-loop-command l = string_bytes l.out ++ lines_text (map (said_command l.words) (drop l.command-index l.script)) ≡ string_bytes l.fn.out ++ lines_text (map (said_command l.words) l.script)
