use Rattle.std.proofs.Common.{◌∙◌, ap, not}
use Rattle.afr_discipline.proofs.LeftLemmas.{all_asked}
use Rattle.afr_discipline.proofs.heal_sets.are_asked.Goals as goal

pub returns : goal.returns
returns c = ap not c.has_some.ensures ∙ all_asked c.args.upto c.requires c.args.set c.args.asked c.minus.result c.minus.ensures
