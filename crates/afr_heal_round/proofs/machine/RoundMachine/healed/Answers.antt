-- A round whose next line ends a heal is at one.
use Rattle.afr_heal_round.proofs.Shapes.{ends_heal}
use Rattle.afr_heal_round.proofs.machine.RoundMachine.healed.Goals as goal

pub go_on-requires-clause-healing : goal.go_on-requires-clause-healing
go_on-requires-clause-healing c = ends_heal c.self.inside.round.brick c.self.inside.stage (rw (← c.self.view_is) at c.requires)
