use Rattle.std.proofs.Common.{◌≡◌, not}
use Rattle.afr_object.specs.Tables.{opening}
use Rattle.afr_servers.proofs.opening.opened_brick.Given as goal

abbrev pub invariant-loop-i : goal.invariant-loop-i
invariant-loop-i l = l.brick ≡ record { keeps = not l.arbiter; objects = opening l.i }
