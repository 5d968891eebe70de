use Rattle.std.proofs.Common.{◌∙◌, List, ℕ, ap}
use Rattle.afr_base.specs.Bricks.{member}
use Rattle.afr_base.specs.SetLemmas.{member_removed}
use Rattle.afr_discipline.proofs.SetsOfFive.{keeping_all, keeping_no_arbiter}
use Rattle.afr_discipline.proofs.heal_sets.sinks.Goals as goal
use Rattle.afr_discipline.specs.Stands.{seen_as}
use Rattle.afr_model_moves.specs.Steps.{other}

pub returns-then-register : goal.returns-then-register
returns-then-register c x few =
    ap (λ (t : List ℕ). member t x) c.without.ensures
    ∙ member_removed 2 c.others-others.result x
    ∙ keeping_no_arbiter c.args.register.now.shape (member c.others-others.result x) (other (seen_as c.args.register.now) c.args.s.0 x) x few c.if-register.true (c.others-others.ensures x few)

pub returns : goal.returns
returns c x few =
    keeping_all c.args.register.now.shape (member c.others-others.result x) (other (seen_as c.args.register.now) c.args.s.0 x) x few c.if-register.false (c.others-others.ensures x few)
