use Rattle.std.proofs.Common.{◌≡◌, [], drop, length, map}
use Rattle.afr_lines.specs.Log.{EveryPrefix}
use Rattle.afr_trace_build.specs.Built.{built_on}
use Rattle.afr_trace_check.specs.Right.{IsRight}
use Rattle.afr_trace_check.specs.Taken.{IsTaken, log_of}
use Rattle.afr_trace_read.specs.Seen.{seen_line}
use Rattle.afr_trace_check.proofs.checking.check_lines.Given as goal

abbrev pub invariant-loop-i : goal.invariant-loop-i
invariant-loop-i l = record {
  taken : IsTaken l.plan l.taken;
  right : EveryPrefix (IsRight l.plan) (log_of l.taken);
  built : built_on l.plan l.broken (map seen_line l.lines) [] ≡ built_on l.plan l.broken (drop l.i (map seen_line l.lines)) (log_of l.taken);
  count : length l.taken.log.items ≡ l.i;
}
