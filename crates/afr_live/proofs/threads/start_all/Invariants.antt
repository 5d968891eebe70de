use Rattle.std.specs.Prelude.{◌≡◌, ◌≤◌, ◌+◌}
use Rattle.afr_live.proofs.threads.start_all.Given as goal

abbrev pub invariant-loop-i : goal.invariant-loop-i
invariant-loop-i g l = (l.tally.share.parts + l.running.len ≡ l.actors + 1) × (l.running.len ≤ l.i) × (l.actors ≤ l.running.cap)
