use Rattle.std.proofs.Common.{◌≡◌, false}
use Rattle.afr_server.proofs.GuardLemmas.{guard_end, none_owned}
use Rattle.afr_session.specs.Links.{link_of}
use Rattle.afr_server.proofs.server.Server.end.Goals as goal

pub invariant_of-self : goal.invariant_of-self
invariant_of-self c = rw (c.drop_owner.ensures, c.drop_owner-2.ensures) (guard_end c.args.actor c.self.inside.sessions c.end.new.self c.end.ensures.does c.self.invariant)

pub returns-clause-already : goal.returns-clause-already
returns-clause-already c = λ already.
    let gone : (link_of c.args.actor.0 c.self.inside.sessions).live ≡ false = rw (← c.self.view_is) at already in
    let none = gone in
    rw (c.drop_owner.ensures, c.drop_owner-2.ensures, c.end.ensures.same gone, none_owned c.self.inside.sessions c.args.actor c.self.inside.ranges none c.self.invariant.over_ranges, none_owned c.self.inside.sessions c.args.actor c.self.inside.names none c.self.invariant.over_names) c.self.view_is
