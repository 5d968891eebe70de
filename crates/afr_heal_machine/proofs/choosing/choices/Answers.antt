use Rattle.std.proofs.Common.{◌∙◌, ap, map}
use Rattle.afr_base.specs.Bricks.{common}
use Rattle.afr_discipline.specs.Stands.{views_of}
use Rattle.afr_model_moves.specs.Keeps.{keeps_in}
use Rattle.afr_model_moves.specs.Register.{good}
use Rattle.afr_rule.specs.Copies.{copy_in}
use Rattle.afr_heal_machine.proofs.ChoiceLemmas.{candidates_are, those_below}
use Rattle.afr_heal_machine.proofs.choosing.choices.Goals as goal

pub returns : goal.returns
returns c =
    candidates_are c.args.register.now c.args.kind c.of.result c.requires.source
    (c.of.ensures
    ∙ ap (map (copy_in c.args.register.now.seen))
    (c.common-few.ensures
    ∙ (λ i. common (c.good_shown-sources.ensures i) (c.all.ensures i))
    ∙ those_below c.args.register.now.shape.n (good c.args.register.now.shape.n (keeps_in c.args.register.now.shape) c.args.kind (views_of c.args.register.now.seen))))
