use Rattle.afr_client.proofs.WorkLemmas.{fed_is_answered}
use Rattle.afr_client.proofs.laws.a_work_reads_good_copies.Goals as goal

pub returns : goal.returns
returns g c = fed_is_answered g.G.Fn c.args.rule.now
