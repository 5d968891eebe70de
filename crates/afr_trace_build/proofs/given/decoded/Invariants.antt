use Rattle.std.proofs.Common.{◌≡◌, ◌++◌, length}
use Rattle.afr_plan.specs.Data.{hex_bytes}
use Rattle.afr_trace_build.proofs.given.decoded.Given as goal

abbrev pub invariant-loop-rest : goal.invariant-loop-rest
invariant-loop-rest l = l.bytes.items ++ hex_bytes l.rest ≡ hex_bytes l.digits

abbrev pub decreases-loop-rest : goal.decreases-loop-rest
decreases-loop-rest l = length l.rest
