use Rattle.afr_client_read.proofs.LookupLemmas.{fed_is_answered}
use Rattle.afr_client_read.proofs.laws.a_picked_copy_is_good.Goals as goal

pub returns : goal.returns
returns g c = fed_is_answered g.G.Fn c.args.rule.now
