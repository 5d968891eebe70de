use Rattle.std.proofs.Common.{◌≡◌, ◌++◌, map, drop}
use Rattle.std.specs.Prelude.{string_bytes}
use Rattle.afr_plan_print.specs.PrintedLine.{lines_text}
use Rattle.afr_plan_print.specs.PrintedPlan.{said_event}
use Rattle.afr_plan_print.proofs.schedule.push_events.Given as goal

abbrev pub invariant-loop-event : goal.invariant-loop-event
invariant-loop-event l = string_bytes l.out ++ lines_text (map said_event (drop l.event-index l.events)) ≡ string_bytes l.fn.out ++ lines_text (map said_event l.events)
