use Rattle.afr_law_cost.proofs.Healer.Beginning.{paced_at_first, paced_other, paced_ready}
use Rattle.afr_law_cost.proofs.Healer.Indexes.{index_shown}
use Rattle.afr_law_cost.proofs.Healer.Lines.{paced_line}
use Rattle.afr_law_cost.proofs.healer_lines.a_round_keeps_within_its_cost.Goals as goal

pub returns : goal.returns
returns c = record {
  first = paced_at_first;
  ready = paced_ready c.a_round_comes_nearer.ensures.start;
  line = paced_line (record {
    can = c.a_healer_keeps_its_round.ensures.can;
    asked = c.a_round_comes_nearer.ensures.asked;
    begun = c.a_round_comes_nearer.ensures.begun;
    healed = c.a_round_comes_nearer.ensures.ended;
    end = c.a_round_comes_nearer.ensures.end;
  });
  others = paced_other;
  index = index_shown c.servers_follow_their_log.ensures.answers;
}
