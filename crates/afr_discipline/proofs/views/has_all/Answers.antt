-- Nothing of the bricks below the number is outside the set.
use Rattle.std.proofs.Common.{◌∙◌, List, ℕ, ap}
use Rattle.afr_base.specs.Bricks.{minus}
use Rattle.afr_discipline.proofs.FirstLemmas.{none_missing}
use Rattle.afr_discipline.proofs.views.has_all.Goals as goal

pub returns : goal.returns
returns c = c.is_empty.ensures ∙ none_missing c.args.n c.requires c.args.set c.minus.result (c.minus.ensures ∙ ap (λ (t : List ℕ). minus t c.args.set) c.all.ensures)
