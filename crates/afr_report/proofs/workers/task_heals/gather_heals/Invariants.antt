-- The heals that the lines before the present one have ended, and how many tasks of each worker.
use Rattle.std.proofs.Common.{◌≡◌, ◌≤◌, map, reverse, take}
use Rattle.afr_lines.specs.Work.{ended}
use Rattle.afr_log.specs.Log.{told_line}
use Rattle.afr_report.specs.Workers.{task_heals}
use Rattle.afr_report.proofs.workers.task_heals.gather_heals.Given as goal

abbrev pub invariant-loop-at : goal.invariant-loop-at
invariant-loop-at l = record {
  heals : map told_line l.heals.items ≡ task_heals l.all.second l.all.third (reverse (take l.at l.log.items));
  second : l.second ≡ ended 18 (reverse (take l.at l.log.items));
  third : l.third ≡ ended 19 (reverse (take l.at l.log.items));
  few_second : l.second ≤ l.at;
  few_third : l.third ≤ l.at;
}
