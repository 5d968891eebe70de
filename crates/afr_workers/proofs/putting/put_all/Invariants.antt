use Rattle.std.proofs.Common.{◌≡◌}
use Rattle.afr_workers.specs.Workshop.{IsKept}
use Rattle.afr_workers.proofs.putting.put_all.Given as goal

abbrev pub invariant-loop : goal.invariant-loop
invariant-loop l = record { kept : IsKept l.fn.x l.x; volume : l.x.volume ≡ l.fn.x.volume }
