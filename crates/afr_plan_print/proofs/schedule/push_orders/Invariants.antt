use Rattle.std.proofs.Common.{◌≡◌, ◌++◌, map, drop}
use Rattle.std.specs.Prelude.{string_bytes}
use Rattle.afr_plan_print.specs.PrintedLine.{lines_text}
use Rattle.afr_plan_print.specs.PrintedPlan.{said_order}
use Rattle.afr_plan_print.proofs.schedule.push_orders.Given as goal

abbrev pub invariant-loop-go : goal.invariant-loop-go
invariant-loop-go l = string_bytes l.out ++ lines_text (map said_order (drop l.go-index l.orders)) ≡ string_bytes l.fn.out ++ lines_text (map said_order l.orders)
