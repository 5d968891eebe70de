use Rattle.std.proofs.Common.{◌≡◌, reverse, take}
use Rattle.afr_lines.specs.Work.{is_killed}
use Rattle.afr_workers.proofs.crew.was_killed.Given as goal

abbrev pub invariant-loop-at : goal.invariant-loop-at
invariant-loop-at l = l.killed ≡ is_killed l.a (reverse (take l.at l.log.items))
