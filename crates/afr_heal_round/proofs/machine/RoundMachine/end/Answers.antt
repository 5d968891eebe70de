-- Only a round that is over ends.
use Rattle.afr_heal_round.proofs.Shapes.{ends_over}
use Rattle.afr_heal_round.proofs.machine.RoundMachine.end.Goals as goal

pub returns-in-Over : goal.returns-in-Over
returns-in-Over c = λ said e. let over = ends_over c.self.inside.round.brick c.self.inside.stage said (rw (← c.self.view_is) at e) in cc (over.1, over.2, c.in-Over.is, c.ending.ensures)

pub returns-in_default : goal.returns-in_default
returns-in_default c = λ said e. let over = ends_over c.self.inside.round.brick c.self.inside.stage said (rw (← c.self.view_is) at e) in absurd (c.in_default.not-Over over.0 over.1)
