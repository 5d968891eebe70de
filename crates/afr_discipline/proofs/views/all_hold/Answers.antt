use Rattle.std.proofs.Common.{◌∙◌, List, ℕ, ap, arith}
use Rattle.afr_base.proofs.OfFive.{member_chosen}
use Rattle.afr_base.specs.Bricks.{member}
use Rattle.afr_choice.specs.Looks.{views_of}
use Rattle.afr_discipline.proofs.FirstLemmas.{all_same}
use Rattle.afr_discipline.proofs.views.all_hold.Goals as goal
use Rattle.afr_model_moves.specs.Register.{holder}

pub returns : goal.returns
returns c =
    c.has_all.ensures
    ∙ all_same c.args.n (member c.shown.result) (holder (views_of c.args.looked.now))
    (λ x l. ap (λ (t : List ℕ). member t x) c.shown.ensures ∙ member_chosen (holder (views_of c.args.looked.now)) x (omega (arith, l, c.requires)))
