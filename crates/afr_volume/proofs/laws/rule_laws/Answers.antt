use Rattle.afr_volume.proofs.laws.rule_laws.Goals as goal

pub returns : goal.returns
returns g c = record {
  among = c.a_work_asks_the_rule.ensures.among;
  asks = c.a_work_asks_the_rule.ensures.asks;
  reads = c.a_work_asks_the_rule.ensures.reads;
  ends = c.a_work_asks_the_rule.ensures.ends;
}
