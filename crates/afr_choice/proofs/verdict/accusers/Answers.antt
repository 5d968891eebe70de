use Rattle.std.proofs.Common.{arith}
use Rattle.afr_base.proofs.OfFive.{gathered}
use Rattle.afr_choice.specs.Verdict.{accuses_at}
use Rattle.afr_choice.proofs.verdict.accusers.Goals as goal

pub loop-x-preserved : goal.loop-x-preserved
loop-x-preserved c =
    gathered (λ x. accuses_at c.args.kind x c.args.c.0 c.args.looked.now) c.loop-x.x c.blames.result c.loop-x.set c.with_if-set.result
    (omega arith) c.loop-x.invariant c.blames.ensures c.with_if-set.ensures
