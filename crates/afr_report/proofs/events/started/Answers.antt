use Rattle.afr_report.proofs.ToldLemmas.{started_next}
use Rattle.afr_report.proofs.events.started.Goals as goal

pub loop-at-preserved : goal.loop-at-preserved
loop-at-preserved c =
    started_next c.args.n c.args.log.now.items c.loop-at.at c.loop-at.bricks c.started_at-bricks.result (rw c.len-at-end.ensures at c.loop-at-test.true) c.loop-at.invariant c.started_at-bricks.ensures.asked c.started_at-bricks.ensures.line
