use Rattle.std.proofs.Common.{◌≡◌, ◌++◌, map, drop}
use Rattle.std.specs.Prelude.{string_bytes}
use Rattle.afr_plan_print.specs.PrintedLine.{lines_text}
use Rattle.afr_plan_print.specs.PrintedPlan.{said_round}
use Rattle.afr_plan_print.proofs.schedule.push_rounds.Given as goal

abbrev pub invariant-loop-brick : goal.invariant-loop-brick
invariant-loop-brick l = string_bytes l.out ++ lines_text (map said_round (drop l.brick-index l.rounds)) ≡ string_bytes l.fn.out ++ lines_text (map said_round l.rounds)
