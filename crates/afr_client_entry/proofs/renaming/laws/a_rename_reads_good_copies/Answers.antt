use Rattle.afr_client_entry.proofs.Renames.RenameLemmas.{fed_is_answered}
use Rattle.afr_client_entry.proofs.renaming.laws.a_rename_reads_good_copies.Goals as goal

pub returns : goal.returns
returns g c = fed_is_answered g.G.Fn c.args.rule.now
