use Rattle.std.proofs.Common.{subst, sym}
use Rattle.afr_workers.specs.Workshop.{AreActors}
use Rattle.afr_workers.proofs.BeginningLemmas.{none_are}
use Rattle.afr_workers.proofs.threads.all_actors.Goals as goal

pub loop-i-init : goal.loop-i-init
loop-i-init c = subst (AreActors c.args.clients) (sym c.new-actors.ensures.items) (none_are c.args.clients)
