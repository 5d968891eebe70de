use Rattle.std.proofs.Common.{◌≡◌, refl, ap, true, false}
use Rattle.afr_lines.specs.Told.{told_by}
use Rattle.afr_lines.specs.declared.answer.Answer.{Answer}
use Rattle.afr_session.specs.Links.{link_of}
use Rattle.afr_server.proofs.GuardLemmas.{guard_carry}
use Rattle.afr_server.specs.Outcome.{link_served}
use Rattle.afr_server.specs.Serving.{way_in}
use Rattle.afr_server.proofs.server.Server.answer.Goals as goal

pub invariant_of-self-2 : goal.invariant_of-self-2
invariant_of-self-2 c =
    let live : (link_served c.args.first false c.self.inside.sessions.started (link_of c.args.actor.0 c.self.inside.sessions)).live ≡ true = rw (← c.self.view_is) at c.requires.reach in
    let carried = c.in_ok-carry_out.ensures.ok in
    guard_carry c.args.actor c.args.request.now (way_in c.args.actor c.args.request.now c.self.inside.ranges c.self.inside.names) c.args.first c.self.inside.sessions.started c.self.inside.sessions c.count.new.sessions c.self.inside.ranges c.carry_out.new.ranges c.self.inside.names c.carry_out.new.names c.count.ensures.links live carried.ranges carried.names c.self.invariant

pub returns-clause-ok : goal.returns-clause-ok
returns-clause-ok c =
    let carried = c.in_ok-carry_out.ensures.ok in
    rw (← c.self.view_is) (record {
      outcome = λ older past brings. ap (λ (said : Answer). record { told = told_by said; took = true }) (carried.answered older past (brings refl));
      full = λ older past live none brings. carried.answered older past brings;
      copies = λ older past brings. carried.copies older past (brings refl);
      ranges = carried.ranges;
      names = carried.names;
      started = c.count.ensures.started;
      links = c.count.ensures.links;
      faults = c.count.ensures.faults;
    })
