use Rattle.afr_volume.specs.Going.{ClientsRun, Goes}
use Rattle.afr_order.proofs.rows.client_orders.Given as goal

abbrev pub invariant-loop-i : goal.invariant-loop-i
invariant-loop-i g l = record { goes : Goes l.fn.volume l.volume; runs : ClientsRun l.fn.volume l.volume }
