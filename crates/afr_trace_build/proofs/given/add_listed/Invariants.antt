use Rattle.std.proofs.Common.{◌≡◌, ◌++◌, filter, length}
use Rattle.afr_trace_build.specs.Given.{is_told}
use Rattle.afr_trace_build.proofs.given.add_listed.Given as goal

abbrev pub invariant-loop-rest : goal.invariant-loop-rest
invariant-loop-rest l = l.out.items ++ filter (λ x. is_told l.names x.0) l.rest ≡ l.fn.out.items ++ filter (λ x. is_told l.fn.names x.0) l.fn.listed

abbrev pub decreases-loop-rest : goal.decreases-loop-rest
decreases-loop-rest l = length l.rest
