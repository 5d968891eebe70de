use Rattle.afr_servers.proofs.EventLemmas.{IsEventBelow}
use Rattle.afr_servers.proofs.events.each_event.Given as goal

abbrev pub invariant-loop-b : goal.invariant-loop-b
invariant-loop-b l = IsEventBelow l.event l.b l.fn.servers.items l.servers.items
