use Rattle.std.proofs.Common.{arith}
use Rattle.afr_base.proofs.OfFive.{gathered}
use Rattle.afr_choice.specs.Looks.{views_of}
use Rattle.afr_model_moves.specs.Register.{holder}
use Rattle.afr_choice.proofs.by_views.shown.Goals as goal

pub loop-b-preserved : goal.loop-b-preserved
loop-b-preserved c =
    gathered (holder (views_of c.args.looked.now)) c.loop-b.b c.holds.result c.loop-b.set c.with_if-set.result
    (omega arith) c.loop-b.invariant c.holds.ensures c.with_if-set.ensures
