use Rattle.afr_discipline.proofs.HealDecisions.{decided_by}
use Rattle.afr_discipline.proofs.moves.may.Goals as goal

pub returns-clause-lawful : goal.returns-clause-lawful
returns-clause-lawful c = λ r stands. decided_by c.args.register.now r c.args.step.now c.is_move.result c.requires stands c.is_move.ensures
