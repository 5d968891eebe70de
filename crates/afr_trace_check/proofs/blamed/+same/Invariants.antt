use Rattle.std.proofs.Common.{length}
use Rattle.afr_trace_check.proofs.blamed.+same.Given as goal

abbrev pub decreases-same : goal.decreases-same
decreases-same l = length l.one
