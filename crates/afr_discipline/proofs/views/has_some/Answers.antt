-- Some brick of the set is below the number.
use Rattle.std.proofs.Common.{◌∙◌, Bool, List, ℕ, ap, not}
use Rattle.afr_base.specs.Bricks.{common}
use Rattle.afr_discipline.proofs.FirstLemmas.{some_below}
use Rattle.afr_discipline.proofs.views.has_some.Goals as goal

pub returns : goal.returns
returns c = ap (λ (x : Bool). not x) c.is_empty.ensures ∙ some_below c.args.n c.args.set c.common-few.result c.requires (c.common-few.ensures ∙ ap (λ (t : List ℕ). common c.args.set t) c.all.ensures)
