use Rattle.afr_discipline.proofs.Noted.{noted_stands}
use Rattle.afr_discipline.proofs.NotedShape.{noted_shape}
use Rattle.afr_discipline.proofs.StandsLemmas.{stands_untouched}
use Rattle.afr_discipline.proofs.laws.each_note_stands.Goals as goal

pub returns-clause-stands : goal.returns-clause-stands
returns-clause-stands c = noted_stands

pub returns-clause-shapes : goal.returns-clause-shapes
returns-clause-shapes c = noted_shape

pub returns-clause-fresh : goal.returns-clause-fresh
returns-clause-fresh c = stands_untouched
