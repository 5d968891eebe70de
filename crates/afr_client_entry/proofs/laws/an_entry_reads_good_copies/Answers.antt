use Rattle.afr_client_entry.proofs.EntryLemmas.{fed_is_answered}
use Rattle.afr_client_entry.proofs.laws.an_entry_reads_good_copies.Goals as goal

pub returns : goal.returns
returns g c = fed_is_answered g.G.Fn c.args.rule.now
