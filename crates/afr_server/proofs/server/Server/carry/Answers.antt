use Rattle.afr_server.proofs.LoseLemmas.{lost_after}
use Rattle.afr_server.proofs.server.Server.carry.Goals as goal

pub returns-clause-ok : goal.returns-clause-ok
returns-clause-ok c =
    let lost = c.if-not-lost.false in
    rw lost
    (lost_after c.args.first c.args.actor c.args.request.now c.args.load c.args.self.now c.answer.new.self c.lose.new.self c.answer.new.given c.lose.new.given c.in_ok-answer.ensures.ok c.lose.ensures.given c.lose.ensures.same c.lose.ensures.links)
