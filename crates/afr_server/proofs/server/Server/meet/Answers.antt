use Rattle.std.proofs.Common.{true}
use Rattle.afr_server.proofs.GuardLemmas.{guard_count}
use Rattle.afr_server.proofs.server.Server.meet.Goals as goal

pub invariant_of-self : goal.invariant_of-self
invariant_of-self c = guard_count c.args.actor.0 true c.self.inside.sessions.started c.self.inside.sessions c.meet.new.self c.meet.ensures.does.links c.self.invariant
