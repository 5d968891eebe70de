use Rattle.afr_client_write.proofs.WriteLemmas.{fed_is_answered}
use Rattle.afr_client_write.proofs.laws.a_write_reads_good_copies.Goals as goal

pub returns : goal.returns
returns g c = fed_is_answered g.G.Fn c.args.rule.now
