use Rattle.std.proofs.Common.{ℕ, ◌+◌, ◌++◌, take, reverse}
use Rattle.afr_lines.specs.Work.{Work}
use Rattle.afr_trace_follow.specs.Parts.{lines_from}
use Rattle.afr_trace_follow.specs.Stands.{IsAt, IsFew}
use Rattle.afr_trace_follow.proofs.stand.stand_on.Given as goal

abbrev pub invariant-loop-position : goal.invariant-loop-position
invariant-loop-position l = record {
  at : (w : Work) → IsAt l.plan l.names w l.initial.stand → IsAt l.plan l.names (lines_from l.a.0 l.from (reverse (take l.position l.log)) ++ w) l.stand;
  few : (n : ℕ) → IsFew n l.initial.stand → IsFew (n + l.position) l.stand;
}
