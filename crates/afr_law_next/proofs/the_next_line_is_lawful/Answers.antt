use Rattle.afr_law_next.proofs.Answered.{answered_is_lawful, next_is_ready}
use Rattle.afr_law_next.proofs.Turns.{asked_is_noted, event_comes, may_be_asked, may_begin, may_end, may_heal_begin, may_heal_end}
use Rattle.afr_law_next.proofs.the_next_line_is_lawful.Goals as goal

pub returns-clause-asks : goal.returns-clause-asks
returns-clause-asks c = may_be_asked c.a_turn_keeps_the_discipline.ensures.kept

pub returns-clause-asked : goal.returns-clause-asked
returns-clause-asked c = asked_is_noted c.a_turn_keeps_the_discipline.ensures.kept

pub returns-clause-lawful : goal.returns-clause-lawful
returns-clause-lawful c = answered_is_lawful c.lawful_lines_fit.ensures.answered

pub returns-clause-begins : goal.returns-clause-begins
returns-clause-begins c = may_begin c.a_turn_keeps_the_discipline.ensures.kept

pub returns-clause-ends : goal.returns-clause-ends
returns-clause-ends c = may_end c.a_turn_keeps_the_discipline.ensures.kept

pub returns-clause-event : goal.returns-clause-event
returns-clause-event c = event_comes

pub returns-clause-premises : goal.returns-clause-premises
returns-clause-premises c = next_is_ready c.lawful_lines_fit.ensures.carries c.lawful_lines_fit.ensures.found c.lawful_lines_are_covered.ensures.carries c.lawful_lines_are_covered.ensures.locks

pub returns-clause-heal_begins : goal.returns-clause-heal_begins
returns-clause-heal_begins c = may_heal_begin c.a_turn_keeps_the_discipline.ensures.kept

pub returns-clause-heal_ends : goal.returns-clause-heal_ends
returns-clause-heal_ends c = may_heal_end c.a_turn_keeps_the_discipline.ensures.kept
