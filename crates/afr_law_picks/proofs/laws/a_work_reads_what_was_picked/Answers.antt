use Rattle.afr_law_picks.proofs.Kept.{begin_keeps, line_keeps, reading_begins}
use Rattle.afr_law_picks.proofs.laws.a_work_reads_what_was_picked.Goals as goal

pub returns-clause-begins : goal.returns-clause-begins
returns-clause-begins c = reading_begins

pub returns-clause-line : goal.returns-clause-line
returns-clause-line c = line_keeps c.a_work_stays_sound.ensures.stays c.a_work_stays_sound.ensures.asks_more c.a_work_tells_its_lines.ensures.more c.a_work_tells_its_lines.ensures.about

pub returns-clause-begun : goal.returns-clause-begun
returns-clause-begun c = begin_keeps
