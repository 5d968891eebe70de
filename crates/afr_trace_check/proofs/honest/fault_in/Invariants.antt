use Rattle.std.proofs.Common.{◌≡◌, drop}
use Rattle.afr_model.specs.Honest.{fault_in}
use Rattle.afr_trace_check.proofs.honest.fault_in.Given as goal

abbrev pub invariant-loop-planned : goal.invariant-loop-planned
invariant-loop-planned l = fault_in l.faults l.b.0 l.k ≡ fault_in (drop l.planned-index l.faults) l.b.0 l.k
