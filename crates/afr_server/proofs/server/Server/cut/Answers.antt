use Rattle.std.proofs.Common.{◌≡◌, false}
use Rattle.afr_server.proofs.GuardLemmas.{guard_cut, none_owned, cut_gone}
use Rattle.afr_session.specs.Links.{link_of}
use Rattle.afr_server.proofs.server.Server.cut.Goals as goal

pub invariant_of-self : goal.invariant_of-self
invariant_of-self c = rw (c.drop_owner.ensures, c.drop_owner-2.ensures) (guard_cut c.args.actor c.self.inside.sessions c.cut.new.self c.cut.ensures.does c.self.invariant)

pub returns-clause-already : goal.returns-clause-already
returns-clause-already c = λ already.
    let gone : (link_of c.args.actor.0 c.self.inside.sessions).up ≡ false = rw (← c.self.view_is) at already in
    let none = cut_gone c.args.actor c.self.inside.sessions c.cut.new.self c.cut.ensures.does (c.cut.ensures.same gone) in
    rw (c.drop_owner.ensures, c.drop_owner-2.ensures, c.cut.ensures.same gone, none_owned c.self.inside.sessions c.args.actor c.self.inside.ranges none c.self.invariant.over_ranges, none_owned c.self.inside.sessions c.args.actor c.self.inside.names none c.self.invariant.over_names) c.self.view_is
