use Rattle.std.proofs.Common.{ap, arith, length}
use Rattle.afr_trace_check.proofs.blamed.+same.Goals as goal

pub same-more-requires : goal.same-more-requires
same-more-requires t c = omega (arith, ap length c.rest.ensures)
