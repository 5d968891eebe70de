use Rattle.std.specs.Prelude.{◌≡◌, ◌+◌, ◌<◌}
use Rattle.afr_live.proofs.threads.finish.Given as goal

abbrev pub invariant-loop-thread : goal.invariant-loop-thread
invariant-loop-thread g l = (l.tally.share.parts + l.running.len ≡ l.fn.tally.share.parts + l.fn.running.len) × (0 < l.tally.share.parts)

abbrev pub decreases-loop-thread : goal.decreases-loop-thread
decreases-loop-thread g l = goal.left-loop-thread g l
