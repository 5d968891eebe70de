use Rattle.std.proofs.Common.{◌≡◌}
use Rattle.afr_servers.proofs.StartedLemmas.{started_below}
use Rattle.afr_servers.proofs.started.started_among.Given as goal

abbrev pub invariant-loop-b : goal.invariant-loop-b
invariant-loop-b l = l.started ≡ started_below l.b l.servers
