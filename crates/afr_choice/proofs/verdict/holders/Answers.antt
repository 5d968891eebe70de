use Rattle.std.proofs.Common.{arith}
use Rattle.afr_choice.specs.Verdict.{is_holder}
use Rattle.afr_base.proofs.OfFive.{gathered}
use Rattle.afr_choice.proofs.verdict.holders.Goals as goal

pub loop-b-preserved : goal.loop-b-preserved
loop-b-preserved c =
    gathered (is_holder c.args.looked.now) c.loop-b.b c.has_view.result c.loop-b.set c.with_if-set.result
    (omega arith) c.loop-b.invariant c.has_view.ensures c.with_if-set.ensures
