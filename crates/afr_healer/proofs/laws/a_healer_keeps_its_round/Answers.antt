use Rattle.afr_healer.proofs.EveryLine.{every_line}
use Rattle.afr_healer.proofs.BeforeNext.{can_step_next}
use Rattle.afr_healer.proofs.Begins.{rounds_begin, rounds_end, tasks_begin}
use Rattle.afr_healer.proofs.Others.{others_stay}
use Rattle.afr_healer.proofs.laws.a_healer_keeps_its_round.Goals as goal

pub returns-clause-can : goal.returns-clause-can
returns-clause-can c = can_step_next (record {
  next = record {
    anew = c.a_turn_keeps_the_discipline.ensures.anew;
    goes_on = c.a_turn_keeps_the_discipline.ensures.goes_on;
    asks = c.the_next_line_is_lawful.ensures.asks;
    noted = c.the_next_line_is_lawful.ensures.asked;
    lawful = c.the_next_line_is_lawful.ensures.lawful;
    heal_begins = c.the_next_line_is_lawful.ensures.heal_begins;
    heal_ends = c.the_next_line_is_lawful.ensures.heal_ends;
    ends = c.the_next_line_is_lawful.ensures.ends;
    ready = c.the_next_line_is_lawful.ensures.premises;
  };
  servers = record {
    asked = c.servers_follow_their_log.ensures.asked;
    written = c.servers_follow_their_log.ensures.written;
    needs = c.servers_follow_their_log.ensures.needs;
    answers = c.servers_follow_their_log.ensures.answers;
  };
  heal = record {
    allowed = c.a_heal_stays_sound.ensures.allowed;
    low = c.a_heal_stays_sound.ensures.low;
    fresh = c.a_heal_stays_sound.ensures.fresh;
    inside = c.a_heal_stays_sound.ensures.inside;
    five = c.a_heal_stays_sound.ensures.five;
    begins = c.a_heal_stays_sound.ensures.begins;
    stays = c.a_heal_stays_sound.ensures.stays;
    begun_stays = c.a_heal_stays_sound.ensures.begun;
    end_named = c.a_heal_stays_sound.ensures.named;
  };
  telling = record {
    begins = c.a_heal_tells_its_lines.ensures.begins;
    more = c.a_heal_tells_its_lines.ensures.more;
    begun = c.a_heal_tells_its_lines.ensures.begun;
    settles = c.a_heal_tells_its_lines.ensures.settles;
    ends = c.a_heal_tells_its_lines.ensures.ends;
  };
  hearing = record {
    hears = c.a_heal_hears_what_it_asked.ensures.hears;
    listed = c.a_heal_hears_what_it_asked.ensures.index;
    none = c.a_heal_hears_what_it_asked.ensures.none;
    more = c.a_heal_hears_what_it_asked.ensures.more;
    begun = c.a_heal_hears_what_it_asked.ensures.begun;
    ready = c.a_heal_hears_what_it_asked.ensures.ready;
    other = c.a_heal_hears_what_it_asked.ensures.other;
    brings = c.a_heal_hears_what_it_asked.ensures.brings;
  };
  notes_stand = c.each_note_stands.ensures.stands;
})

pub returns-clause-keeps : goal.returns-clause-keeps
returns-clause-keeps c = every_line (record {
  next = record {
    anew = c.a_turn_keeps_the_discipline.ensures.anew;
    goes_on = c.a_turn_keeps_the_discipline.ensures.goes_on;
    asks = c.the_next_line_is_lawful.ensures.asks;
    noted = c.the_next_line_is_lawful.ensures.asked;
    lawful = c.the_next_line_is_lawful.ensures.lawful;
    heal_begins = c.the_next_line_is_lawful.ensures.heal_begins;
    heal_ends = c.the_next_line_is_lawful.ensures.heal_ends;
    ends = c.the_next_line_is_lawful.ensures.ends;
    ready = c.the_next_line_is_lawful.ensures.premises;
  };
  servers = record {
    asked = c.servers_follow_their_log.ensures.asked;
    written = c.servers_follow_their_log.ensures.written;
    needs = c.servers_follow_their_log.ensures.needs;
    answers = c.servers_follow_their_log.ensures.answers;
  };
  heal = record {
    allowed = c.a_heal_stays_sound.ensures.allowed;
    low = c.a_heal_stays_sound.ensures.low;
    fresh = c.a_heal_stays_sound.ensures.fresh;
    inside = c.a_heal_stays_sound.ensures.inside;
    five = c.a_heal_stays_sound.ensures.five;
    begins = c.a_heal_stays_sound.ensures.begins;
    stays = c.a_heal_stays_sound.ensures.stays;
    begun_stays = c.a_heal_stays_sound.ensures.begun;
    end_named = c.a_heal_stays_sound.ensures.named;
  };
  telling = record {
    begins = c.a_heal_tells_its_lines.ensures.begins;
    more = c.a_heal_tells_its_lines.ensures.more;
    begun = c.a_heal_tells_its_lines.ensures.begun;
    settles = c.a_heal_tells_its_lines.ensures.settles;
    ends = c.a_heal_tells_its_lines.ensures.ends;
  };
  hearing = record {
    hears = c.a_heal_hears_what_it_asked.ensures.hears;
    listed = c.a_heal_hears_what_it_asked.ensures.index;
    none = c.a_heal_hears_what_it_asked.ensures.none;
    more = c.a_heal_hears_what_it_asked.ensures.more;
    begun = c.a_heal_hears_what_it_asked.ensures.begun;
    ready = c.a_heal_hears_what_it_asked.ensures.ready;
    other = c.a_heal_hears_what_it_asked.ensures.other;
    brings = c.a_heal_hears_what_it_asked.ensures.brings;
  };
  notes_stand = c.each_note_stands.ensures.stands;
})

pub returns-clause-others : goal.returns-clause-others
returns-clause-others c = others_stay c.a_heal_hears_what_it_asked.ensures.other

pub returns-clause-begins : goal.returns-clause-begins
returns-clause-begins c = rounds_begin c.a_heal_hears_what_it_asked.ensures.ready

pub returns-clause-tasks : goal.returns-clause-tasks
returns-clause-tasks c = tasks_begin c.a_heal_stays_sound.ensures.begins c.a_heal_tells_its_lines.ensures.begins c.a_heal_hears_what_it_asked.ensures.none

pub returns-clause-ends : goal.returns-clause-ends
returns-clause-ends c = rounds_end
