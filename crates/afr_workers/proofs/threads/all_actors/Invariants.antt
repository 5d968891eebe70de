use Rattle.afr_workers.specs.Workshop.{AreActors}
use Rattle.afr_workers.proofs.threads.all_actors.Given as goal

abbrev pub invariant-loop-i : goal.invariant-loop-i
invariant-loop-i l = AreActors l.fn.clients l.actors.items

abbrev pub invariant-loop-i-2 : goal.invariant-loop-i-2
invariant-loop-i-2 l = AreActors l.fn.clients l.actors.items
