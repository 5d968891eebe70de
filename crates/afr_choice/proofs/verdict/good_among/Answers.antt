use Rattle.std.proofs.Common.{arith}
use Rattle.afr_choice.specs.Verdict.{is_good}
use Rattle.afr_base.proofs.OfFive.{gathered}
use Rattle.afr_choice.proofs.verdict.good_among.Goals as goal

pub loop-b-preserved : goal.loop-b-preserved
loop-b-preserved c =
    gathered (is_good c.args.shape.now c.args.looked.now c.args.kind) c.loop-b.b c.is_clean.result c.loop-b.set c.with_if-set.result
    (omega arith) c.loop-b.invariant c.is_clean.ensures c.with_if-set.ensures
