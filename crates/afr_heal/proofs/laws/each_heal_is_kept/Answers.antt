use Rattle.afr_heal.proofs.Carried.{standing_carried}
use Rattle.afr_heal.proofs.Moved.{heals_allowed, heals_begun, heals_kept, heals_move, heals_new}
use Rattle.afr_heal.proofs.NamedLemmas.{stays_named}
use Rattle.afr_heal.proofs.laws.each_heal_is_kept.Goals as goal

pub returns-clause-carried : goal.returns-clause-carried
returns-clause-carried c = standing_carried

pub returns-clause-named : goal.returns-clause-named
returns-clause-named c = stays_named

pub returns-clause-new : goal.returns-clause-new
returns-clause-new c = heals_new

pub returns-clause-allowed : goal.returns-clause-allowed
returns-clause-allowed c = heals_allowed

pub returns-clause-moves : goal.returns-clause-moves
returns-clause-moves c = heals_move

pub returns-clause-kept : goal.returns-clause-kept
returns-clause-kept c = heals_kept c.each_note_stands.ensures.stands c.each_note_stands.ensures.shapes

pub returns-clause-begun : goal.returns-clause-begun
returns-clause-begun c = heals_begun c.each_note_stands.ensures.stands c.each_note_stands.ensures.shapes
