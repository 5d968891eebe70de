use Rattle.afr_server.proofs.GuardLemmas.{guard_join, guard_start}
use Rattle.afr_server.proofs.server.Server.event.Goals as goal

pub invariant_of-self : goal.invariant_of-self
invariant_of-self c = guard_start c.self.inside.sessions c.start.new.self c.start.ensures.does c.self.invariant

pub invariant_of-self-then-brick-me-4 : goal.invariant_of-self-then-brick-me-4
invariant_of-self-then-brick-me-4 c = guard_join c.in-Join.actor.0 c.self-in-Join.inside.sessions c.join.new.self c.join.ensures.does c.self-in-Join.invariant
