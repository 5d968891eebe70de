use Rattle.std.proofs.Common.{◌≡◌, drop}
use Rattle.std.specs.List.{list_any}
use Rattle.afr_trace_tally.specs.Limits.{has_long}
use Rattle.afr_trace_tally.proofs.limits.is_past_limit.Given as goal

abbrev pub invariant-loop-commands : goal.invariant-loop-commands
invariant-loop-commands l = list_any has_long l.plan.clients ≡ list_any has_long (drop l.commands-index l.plan.clients)
