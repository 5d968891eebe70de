use Rattle.afr_law_next.proofs.Turned as turned
use Rattle.afr_law_next.proofs.a_turn_keeps_the_discipline.Goals as goal

pub returns-clause-anew : goal.returns-clause-anew
returns-clause-anew c = turned.begins_anew c.each_note_stands.ensures.fresh

pub returns-clause-goes_on : goal.returns-clause-goes_on
returns-clause-goes_on c = turned.goes_on

pub returns-clause-kept : goal.returns-clause-kept
returns-clause-kept c = turned.each_line_is_kept c.each_move_is_decided.ensures c.each_note_stands.ensures.stands c.each_note_stands.ensures.shapes
