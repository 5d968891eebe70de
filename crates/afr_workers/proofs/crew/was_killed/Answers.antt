use Rattle.afr_workers.proofs.KilledLemmas.{killed_next}
use Rattle.afr_workers.proofs.crew.was_killed.Goals as goal

pub loop-at-preserved : goal.loop-at-preserved
loop-at-preserved c = killed_next c.args.a c.args.log.now.items c.loop-at.at c.loop-at.killed c.is_killed_by-killed.result (rw c.len-at-end.ensures at c.loop-at-test.true) c.is_killed_by-killed.ensures c.loop-at.invariant
