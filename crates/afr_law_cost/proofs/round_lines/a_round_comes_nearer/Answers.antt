use Rattle.afr_law_cost.proofs.Round.Rounds.{healed_nearer, index_nearer, round_costs, round_end_left, round_follows}
use Rattle.afr_law_cost.proofs.Round.Steps.{round_asks_nearer, round_begins_nearer, round_healed_nearer}
use Rattle.afr_law_cost.proofs.round_lines.a_round_comes_nearer.Goals as goal

pub returns : goal.returns
returns c = record {
  start = round_costs;
  index = index_nearer c.a_heals_machine_comes_nearer.ensures.start;
  follows = round_follows;
  healed = healed_nearer c.a_heals_machine_comes_nearer.ensures.start;
  asked = round_asks_nearer c.a_heals_machine_comes_nearer.ensures.asked c.a_heals_machine_comes_nearer.ensures.rooted c.a_heals_machine_comes_nearer.ensures.start;
  begun = round_begins_nearer c.a_heals_machine_comes_nearer.ensures.begun;
  ended = round_healed_nearer c.a_heals_machine_comes_nearer.ensures.end c.a_heals_machine_comes_nearer.ensures.start;
  end = round_end_left;
}
