use Rattle.afr_discipline.proofs.NotedShape.{steps_shape}
use Rattle.afr_discipline.proofs.note_alone.note_outside.Goals as goal

pub returns-clause-shape : goal.returns-clause-shape
returns-clause-shape c = rw c.noted_alone.ensures (steps_shape c.args.register.now c.args.at c.args.b.0 c.args.request.now c.args.told.now)
