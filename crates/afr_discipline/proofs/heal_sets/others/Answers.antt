use Rattle.std.proofs.Common.{◌&&◌, ◌∙◌, List, ℕ, ap, not}
use Rattle.afr_base.specs.Bricks.{member}
use Rattle.afr_base.specs.SetLemmas.{member_minus}
use Rattle.afr_discipline.proofs.LeftLemmas.{turned_round}
use Rattle.afr_discipline.proofs.heal_sets.others.Goals as goal

pub returns : goal.returns
returns c x few =
    ap (λ (t : List ℕ). member t x) c.minus.ensures
    ∙ member_minus c.holders.result c.only.result x
    ∙ turned_round (member c.only.result x) (member c.holders.result x)
    ∙ (λ i. c.holders.ensures x few i && not (c.only.ensures x few i))
