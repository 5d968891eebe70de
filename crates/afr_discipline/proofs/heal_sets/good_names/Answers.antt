use Rattle.std.proofs.Common.{◌∙◌, List, ℕ, ap}
use Rattle.afr_base.proofs.OfFive.{member_chosen}
use Rattle.afr_base.specs.Bricks.{member}
use Rattle.afr_base.specs.declared.ids.Kind.TheVariants.{Names}
use Rattle.afr_discipline.proofs.heal_sets.good_names.Goals as goal
use Rattle.afr_discipline.specs.Stands.{views_of}
use Rattle.afr_model_moves.specs.Keeps.{keeps_in}
use Rattle.afr_model_moves.specs.Register.{good}

pub returns : goal.returns
returns c x few =
    ap (λ (t : List ℕ). member t x) c.good_shown.ensures
    ∙ member_chosen (good c.args.register.now.shape.n (keeps_in c.args.register.now.shape) Names (views_of c.args.register.now.seen)) x few
