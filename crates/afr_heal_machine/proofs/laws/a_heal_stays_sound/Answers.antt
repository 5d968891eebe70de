use Rattle.std.proofs.Common.{refl}
use Rattle.afr_heal_machine.proofs.Sound.{asks_low, heal_allowed, heal_begins, heal_begun_stays, heal_end_named, heal_has_room, heal_has_source, heal_is_inside, heal_keeps_five, heal_stays}
use Rattle.afr_heal_machine.proofs.laws.a_heal_stays_sound.Goals as goal

pub returns-clause-allowed : goal.returns-clause-allowed
returns-clause-allowed c = heal_allowed c.each_heal_is_kept.ensures.moves

pub returns-clause-low : goal.returns-clause-low
returns-clause-low c = asks_low c.each_heal_is_kept.ensures.allowed

pub returns-clause-room : goal.returns-clause-room
returns-clause-room c = heal_has_room

pub returns-clause-fresh : goal.returns-clause-fresh
returns-clause-fresh c = λ shape g kind. refl

pub returns-clause-inside : goal.returns-clause-inside
returns-clause-inside c = heal_is_inside

pub returns-clause-five : goal.returns-clause-five
returns-clause-five c = heal_keeps_five

pub returns-clause-begins : goal.returns-clause-begins
returns-clause-begins c = heal_begins c.each_heal_is_kept.ensures.new

pub returns-clause-source : goal.returns-clause-source
returns-clause-source c = heal_has_source c.each_note_stands.ensures.stands c.each_note_stands.ensures.shapes c.each_heal_is_kept.ensures.allowed c.each_heal_is_kept.ensures.kept

pub returns-clause-stays : goal.returns-clause-stays
returns-clause-stays c = heal_stays c.each_note_stands.ensures.stands c.each_note_stands.ensures.shapes c.each_heal_is_kept.ensures.allowed c.each_heal_is_kept.ensures.kept c.each_heal_has_room.ensures

pub returns-clause-begun : goal.returns-clause-begun
returns-clause-begun c = heal_begun_stays c.each_heal_is_kept.ensures.begun c.each_heal_has_room.ensures

pub returns-clause-named : goal.returns-clause-named
returns-clause-named c = heal_end_named
