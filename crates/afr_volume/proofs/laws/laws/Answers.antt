use Rattle.afr_volume.proofs.laws.laws.Goals as goal

pub returns-clause-turns : goal.returns-clause-turns
returns-clause-turns c = record {
  next = record {
    anew = c.a_turn_keeps_the_discipline.ensures.anew;
    goes_on = c.a_turn_keeps_the_discipline.ensures.goes_on;
    asks = c.the_next_line_is_lawful.ensures.asks;
    noted = c.the_next_line_is_lawful.ensures.asked;
    lawful = c.the_next_line_is_lawful.ensures.lawful;
    begins = c.the_next_line_is_lawful.ensures.begins;
    ends = c.the_next_line_is_lawful.ensures.ends;
    ready = c.the_next_line_is_lawful.ensures.premises;
  };
  work = record {
    allowed = c.a_work_stays_sound.ensures.allowed;
    stays = c.a_work_stays_sound.ensures.stays;
    asks_more = c.a_work_stays_sound.ensures.asks_more;
    begins_more = c.a_work_stays_sound.ensures.begins_more;
    notes = c.a_work_stays_sound.ensures.notes;
    notes_begin = c.a_work_stays_sound.ensures.notes_begin;
    outside = c.a_work_stays_sound.ensures.outside;
    low = c.a_work_stays_sound.ensures.low;
    five = c.a_work_keeps_five_places.ensures.asked;
    five_begun = c.a_work_keeps_five_places.ensures.begun;
  };
  telling = record {
    more = c.a_work_tells_its_lines.ensures.more;
    begun = c.a_work_tells_its_lines.ensures.begun;
    about = c.a_work_tells_its_lines.ensures.about;
    blamed = c.a_work_tells_its_lines.ensures.blamed;
    ends = c.a_work_tells_its_lines.ensures.ends;
    names = c.a_work_tells_its_lines.ensures.names;
    lookup_hears = c.a_client_hears_what_it_asked.ensures.lookup;
    write_hears = c.a_client_hears_what_it_asked.ensures.write;
    lookup_brings = c.a_client_hears_what_it_asked.ensures.reads;
    write_brings = c.a_client_hears_what_it_asked.ensures.loads;
    makes_nothing = c.a_client_hears_what_it_asked.ensures.begins;
    entry_hears = c.a_client_hears_of_its_names.ensures.hears;
    entry_brings = c.a_client_hears_of_its_names.ensures.loads;
    makes_new = c.a_client_hears_of_its_names.ensures.begins;
    rename_hears = c.a_client_hears_of_its_renames.ensures.hears;
    rename_brings = c.a_client_hears_of_its_renames.ensures.loads;
    rename_known = c.a_client_hears_of_its_renames.ensures.begins;
  };
  reading = record {
    line = c.a_work_reads_what_was_picked.ensures.line;
    begun = c.a_work_reads_what_was_picked.ensures.begun;
  };
  servers = record {
    asked = c.servers_follow_their_log.ensures.asked;
    written = c.servers_follow_their_log.ensures.written;
    met = c.servers_follow_their_log.ensures.met;
    needs = c.servers_follow_their_log.ensures.needs;
    answers = c.servers_follow_their_log.ensures.answers;
  };
}

pub returns-clause-begins : goal.returns-clause-begins
returns-clause-begins c = record {
  fresh = c.a_work_stays_sound.ensures.fresh;
  five = c.a_work_keeps_five_places.ensures.first;
  tells = c.a_work_tells_its_lines.ensures.begins;
  reads = c.a_work_reads_what_was_picked.ensures.begins;
}

pub returns-clause-events : goal.returns-clause-events
returns-clause-events c = record { happened = c.the_next_line_is_lawful.ensures.event; comes = c.servers_follow_their_log.ensures.event }

pub returns-clause-opens : goal.returns-clause-opens
returns-clause-opens c = c.servers_follow_their_log.ensures.new

pub returns-clause-started : goal.returns-clause-started
returns-clause-started c = c.servers_follow_their_log.ensures.started

pub returns-clause-rounds : goal.returns-clause-rounds
returns-clause-rounds c = record {
  can = c.a_healer_keeps_its_round.ensures.can;
  keeps = c.a_healer_keeps_its_round.ensures.keeps;
  others = c.a_healer_keeps_its_round.ensures.others;
  begins = c.a_healer_keeps_its_round.ensures.begins;
  ends = c.a_healer_keeps_its_round.ensures.ends;
  tasks = c.a_healer_keeps_its_round.ensures.tasks;
}

pub returns-clause-paces : goal.returns-clause-paces
returns-clause-paces c = record {
  asked = c.a_work_comes_nearer.ensures.asked;
  begun = c.a_work_comes_nearer.ensures.begun;
  ends = c.a_work_comes_nearer.ensures.end;
  start = c.a_work_comes_nearer.ensures.start;
  queues = c.a_client_asks_in_rising_order.ensures.start;
  stays = c.a_client_asks_in_rising_order.ensures.stays;
  begun_queued = c.a_client_asks_in_rising_order.ensures.begun;
  rises = c.a_client_asks_in_rising_order.ensures.rises;
  first = c.a_round_keeps_within_its_cost.ensures.first;
  ready = c.a_round_keeps_within_its_cost.ensures.ready;
  line = c.a_round_keeps_within_its_cost.ensures.line;
  beside = c.a_round_keeps_within_its_cost.ensures.others;
  shown = c.a_round_keeps_within_its_cost.ensures.index;
  index = c.indexes_are_short.ensures.next;
  inside = c.a_heal_stays_sound.ensures.inside;
  heals = c.heals_ask_in_rising_order.ensures.heals;
}
