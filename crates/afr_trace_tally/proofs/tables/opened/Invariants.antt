use Rattle.std.proofs.Common.{◌≡◌}
use Rattle.afr_object.specs.Tables.{opening}
use Rattle.afr_model.specs.Tables.{keeps_bytes}
use Rattle.afr_trace_tally.proofs.tables.opened.Given as goal

abbrev pub invariant-loop-i : goal.invariant-loop-i
invariant-loop-i l = l.brick ≡ record { keeps = keeps_bytes l.plan l.fn.b.0; objects = opening l.i }
