use Rattle.std.proofs.Common.{◌≡◌, ◌++◌, filter, map, not, length}
use Rattle.afr_trace_build.specs.Given.{is_listed, unlisted}
use Rattle.afr_trace_build.proofs.given.add_unlisted.Given as goal

abbrev pub invariant-loop-rest : goal.invariant-loop-rest
invariant-loop-rest l = l.out.items ++ map unlisted (filter (λ name. not (is_listed l.listed name)) l.rest) ≡ l.fn.out.items ++ map unlisted (filter (λ name. not (is_listed l.fn.listed name)) l.fn.names)

abbrev pub decreases-loop-rest : goal.decreases-loop-rest
decreases-loop-rest l = length l.rest
