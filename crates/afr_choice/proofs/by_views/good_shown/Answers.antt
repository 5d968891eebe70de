use Rattle.std.proofs.Common.{arith}
use Rattle.afr_base.proofs.OfFive.{gathered}
use Rattle.afr_choice.specs.Looks.{views_of}
use Rattle.afr_model_moves.specs.Keeps.{keeps_in}
use Rattle.afr_model_moves.specs.Register.{good}
use Rattle.afr_choice.proofs.by_views.good_shown.Goals as goal

pub loop-b-preserved : goal.loop-b-preserved
loop-b-preserved c =
    gathered (good c.args.shape.n (keeps_in c.args.shape) c.args.kind (views_of c.args.looked.now)) c.loop-b.b c.is_good.result c.loop-b.set c.with_if-set.result
    (omega arith) c.loop-b.invariant c.is_good.ensures c.with_if-set.ensures
