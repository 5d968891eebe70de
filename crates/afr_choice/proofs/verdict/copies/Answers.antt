use Rattle.std.proofs.Common.{arith}
use Rattle.afr_choice.specs.Verdict.{is_copy}
use Rattle.afr_base.proofs.OfFive.{gathered}
use Rattle.afr_choice.proofs.verdict.copies.Goals as goal

pub loop-b-preserved : goal.loop-b-preserved
loop-b-preserved c =
    gathered (is_copy c.args.shape.now c.args.looked.now c.args.kind) c.loop-b.b c.has_copy.result c.loop-b.set c.with_if-set.result
    (omega arith) c.loop-b.invariant c.has_copy.ensures c.with_if-set.ensures
