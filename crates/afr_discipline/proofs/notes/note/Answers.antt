use Rattle.std.proofs.Common.{arith}
use Rattle.afr_discipline.proofs.Noted.{noted_stands}
use Rattle.afr_discipline.proofs.NotedShape.{noted_shape}
use Rattle.afr_discipline.proofs.NotedUpto.{noted_upto}
use Rattle.afr_discipline.specs.Stands.{HasFive}
use Rattle.afr_discipline.proofs.notes.note.Goals as goal

pub returns-clause-stands : goal.returns-clause-stands
returns-clause-stands c =
    let five : HasFive c.args.register.now = record { looked = c.has_five.ensures; seen = c.has_five-2.ensures; reads = omega arith } in
    λ r stands. rw c.noted.ensures (noted_stands c.args.register.now r c.args.step.now c.args.told.now c.args.at c.requires.few five c.requires.small stands)

pub returns-clause-shape : goal.returns-clause-shape
returns-clause-shape c = rw c.noted.ensures (noted_shape c.args.register.now c.args.step.now c.args.told.now c.args.at)

pub returns-clause-upto : goal.returns-clause-upto
returns-clause-upto c = rw c.noted.ensures (noted_upto c.args.register.now c.args.step.now c.args.told.now c.args.at)
