use Rattle.std.proofs.Common.{◌∙◌}
use Rattle.afr_choice.proofs.Unaccused.{all_are_good}
use Rattle.afr_choice.proofs.verdict.good_of.Goals as goal

pub returns-then-accuses_nobody : goal.returns-then-accuses_nobody
returns-then-accuses_nobody c = c.requires ∙ all_are_good c.args.shape.now c.args.looked.now c.args.kind (c.accuses_nobody.ensures c.if-accuses_nobody.true)
