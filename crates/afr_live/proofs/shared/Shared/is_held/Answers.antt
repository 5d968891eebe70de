-- What is noted says whether an actor was told so.
use Rattle.std.proofs.Common.{◌∙◌, ◌<◌, sym}
use Rattle.afr_law_bound.proofs.Standstill.Standing.{actor_low}
use Rattle.afr_live.proofs.shared.Shared.is_held.Goals as goal

pub returns : goal.returns
returns g c = λ actor.
    let low : c.args.a.0 < 20 = actor_low g.J.Run.plan c.args.a.0 (rw c.args.self.now.planned at c.every_line.ensures.clients) (rw c.args.self.now.planned at c.every_line.ensures.healers) actor in
    c.has.ensures low ∙ sym (c.args.self.now.noted.since c.args.a.0 low)
