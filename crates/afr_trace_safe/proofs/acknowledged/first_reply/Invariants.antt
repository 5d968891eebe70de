use Rattle.std.proofs.Common.{◌≡◌, None, take, reverse}
use Rattle.afr_model.specs.Attempts.{first_reply}
use Rattle.afr_trace_safe.proofs.acknowledged.first_reply.Given as goal

abbrev pub invariant-loop-position : goal.invariant-loop-position
invariant-loop-position l = first_reply l.a.0 l.attempt (reverse (take l.position l.log)) ≡ None
