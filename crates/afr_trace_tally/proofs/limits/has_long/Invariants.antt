use Rattle.std.proofs.Common.{◌≡◌, drop}
use Rattle.afr_trace_tally.specs.Limits.{has_long}
use Rattle.afr_trace_tally.proofs.limits.has_long.Given as goal

abbrev pub invariant-loop-command : goal.invariant-loop-command
invariant-loop-command l = has_long l.commands ≡ has_long (drop l.command-index l.commands)
