use Rattle.afr_heal_machine.proofs.ChoiceLemmas.{lowest_is}
use Rattle.afr_heal_machine.proofs.choosing.lowest.Goals as goal

pub returns : goal.returns
returns c = lowest_is c.args.register.now c.args.kind c.unwrap_or.result c.requires.source c.first_candidate.result c.first_candidate.ensures c.unwrap_or.ensures
