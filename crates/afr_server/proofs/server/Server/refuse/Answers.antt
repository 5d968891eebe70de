use Rattle.afr_server.proofs.GuardLemmas.{guard_count}
use Rattle.afr_server.proofs.server.Server.refuse.Goals as goal

pub invariant_of-self : goal.invariant_of-self
invariant_of-self c = guard_count c.args.actor.0 c.args.first c.self.inside.sessions.started c.self.inside.sessions c.count.new.sessions c.count.ensures.links c.self.invariant
