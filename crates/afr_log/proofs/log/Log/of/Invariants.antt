use Rattle.std.proofs.Common.{◌≡◌}
use Rattle.afr_log.proofs.log.Log.of.Given as goal

-- the lines that came stand in the log
abbrev pub invariant-loop-line : goal.invariant-loop-line
invariant-loop-line l = l.log.items ≡ l.yielded
