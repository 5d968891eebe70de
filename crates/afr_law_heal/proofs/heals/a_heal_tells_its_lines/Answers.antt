use Rattle.afr_law_heal.proofs.CarriedLaws.{begins_told, ends_well, settles_seen, tells_begun, tells_more}
use Rattle.afr_law_heal.proofs.StagesTold.{stages_told}
use Rattle.afr_law_heal.proofs.heals.a_heal_tells_its_lines.Goals as goal

pub returns-clause-begins : goal.returns-clause-begins
returns-clause-begins c = begins_told

pub returns-clause-more : goal.returns-clause-more
returns-clause-more c = tells_more stages_told c.each_note_stands.ensures.stands c.each_note_stands.ensures.shapes

pub returns-clause-begun : goal.returns-clause-begun
returns-clause-begun c = tells_begun stages_told c.each_note_stands.ensures.stands c.each_note_stands.ensures.shapes

pub returns-clause-settles : goal.returns-clause-settles
returns-clause-settles c = settles_seen stages_told c.each_note_stands.ensures.stands c.each_note_stands.ensures.shapes

pub returns-clause-ends : goal.returns-clause-ends
returns-clause-ends c = ends_well stages_told c.each_note_stands.ensures.stands c.each_note_stands.ensures.shapes
