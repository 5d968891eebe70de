use Rattle.std.proofs.Common.{◌≡◌, ◌≤◌, take, reverse}
use Rattle.afr_lines.specs.Work.{ended}
use Rattle.afr_trace_build.proofs.earlier.ended.Given as goal

abbrev pub invariant-loop-line : goal.invariant-loop-line
invariant-loop-line l = record {
  counts : l.works ≡ ended l.a.0 (reverse (take l.line-index l.log));
  small : l.works ≤ l.line-index;
}
