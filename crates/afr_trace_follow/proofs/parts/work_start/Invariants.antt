use Rattle.std.proofs.Common.{◌≡◌, ◌-◌, length, take, reverse}
use Rattle.afr_trace_follow.specs.Parts.{work_start}
use Rattle.afr_trace_follow.proofs.parts.work_start.Given as goal

abbrev pub invariant-loop-i : goal.invariant-loop-i
invariant-loop-i l = work_start l.a.0 (reverse (take (length l.log - l.i) l.log)) ≡ work_start l.a.0 (reverse l.log)
