use Rattle.afr_law_cost.proofs.Round.Machine.{heal_asks_nearer, heal_asks_rooted, heal_begins_nearer, heal_costs, heal_end_left}
use Rattle.afr_law_cost.proofs.round_lines.a_heals_machine_comes_nearer.Goals as goal

pub returns : goal.returns
returns c = record {
  asked = heal_asks_nearer c.each_note_stands.ensures.stands c.each_note_stands.ensures.shapes c.a_heal_stays_sound.ensures.low c.a_heal_comes_nearer.ensures.asked;
  rooted = heal_asks_rooted c.each_note_stands.ensures.stands c.each_note_stands.ensures.shapes c.a_heal_stays_sound.ensures.low c.a_heal_keeps_its_area.ensures.asked;
  begun = heal_begins_nearer c.each_note_stands.ensures.stands c.a_heal_comes_nearer.ensures.asked;
  end = heal_end_left c.a_heal_comes_nearer.ensures.end;
  start = heal_costs;
}
