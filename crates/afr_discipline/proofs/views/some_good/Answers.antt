use Rattle.std.proofs.Common.{◌&&◌, ◌∙◌, sym}
use Rattle.afr_base.specs.Bricks.{member}
use Rattle.afr_choice.specs.Looks.{views_of}
use Rattle.afr_discipline.proofs.views.some_good.Goals as goal
use Rattle.afr_model_moves.proofs.Tests.{some_no}
use Rattle.afr_model_moves.specs.Keeps.{keeps_in}
use Rattle.afr_model_moves.specs.Register.{good}

pub returns-then-is_good_in : goal.returns-then-is_good_in
returns-then-is_good_in c =
    sym (some_no c.args.shape.n (λ x. member c.args.set x && good c.args.shape.n (keeps_in c.args.shape) c.args.kind (views_of c.args.looked.now) x) c.loop-s.s c.loop-s-test.true (sym c.is_good_in.ensures ∙ c.if-is_good_in.true))
