use Rattle.std.proofs.Common.{◌∙◌, List, ℕ, ap}
use Rattle.afr_base.proofs.OfFive.{member_chosen}
use Rattle.afr_base.specs.Bricks.{member}
use Rattle.afr_discipline.proofs.heal_sets.holders.Goals as goal
use Rattle.afr_discipline.specs.Stands.{views_of}
use Rattle.afr_model_moves.specs.Register.{holder}

pub returns : goal.returns
returns c x few = ap (λ (t : List ℕ). member t x) c.shown.ensures ∙ member_chosen (holder (views_of c.args.register.now.seen)) x few
