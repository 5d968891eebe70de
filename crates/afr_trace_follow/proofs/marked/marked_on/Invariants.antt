use Rattle.std.proofs.Common.{take, reverse}
use Rattle.afr_trace_follow.specs.Marked.{IsListing}
use Rattle.afr_trace_follow.proofs.marked.marked_on.Given as goal

abbrev pub invariant-loop-position : goal.invariant-loop-position
invariant-loop-position l = IsListing l.plan (reverse l.log) l.b.0 (reverse (take l.position l.log)) l.index
