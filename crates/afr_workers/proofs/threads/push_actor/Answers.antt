use Rattle.std.proofs.Common.{subst, sym}
use Rattle.afr_workers.specs.Workshop.{AreActors}
use Rattle.afr_workers.proofs.BeginningLemmas.{one_actor_more}
use Rattle.afr_workers.proofs.threads.push_actor.Goals as goal

pub returns-in-Ok : goal.returns-in-Ok
returns-in-Ok c = subst (AreActors c.args.clients) (sym c.in-Ok.ensures.items) (one_actor_more c.args.clients c.args.actors.now.items c.args.a c.requires.all c.requires.own)
