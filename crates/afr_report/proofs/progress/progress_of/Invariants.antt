use Rattle.std.proofs.Common.{◌≡◌, ◌≤◌, take, reverse}
use Rattle.afr_lines.specs.Work.{ended, is_killed}
use Rattle.afr_report.specs.Own.{lines_at}
use Rattle.afr_report.proofs.progress.progress_of.Given as goal

abbrev pub invariant-loop-at : goal.invariant-loop-at
invariant-loop-at l = record {
  counts : l.done ≡ ended l.actor.0 (lines_at l.log.items (reverse (take l.at-index l.own)));
  small : l.done ≤ l.at-index;
  killed : l.dead ≡ is_killed l.actor.0 (lines_at l.log.items (reverse (take l.at-index l.own)));
}
