use Rattle.std.proofs.Common.{◌+◌, take, reverse}
use Rattle.afr_lines.specs.Work.{work}
use Rattle.afr_trace_follow.specs.Asked.{IsAsked, IsFewAsked}
use Rattle.afr_trace_follow.proofs.asked.asked_past.Given as goal

abbrev pub invariant-loop-position : goal.invariant-loop-position
invariant-loop-position l = record {
  at : IsAsked l.plan (l.one + l.other) (work l.a.0 (reverse (take l.position l.log))) l.asked;
  few : IsFewAsked l.position l.asked;
}
