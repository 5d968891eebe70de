-- What the lines before the present one have told.
use Rattle.std.proofs.Common.{◌≡◌, ◌≤◌, reverse, take}
use Rattle.afr_lines.specs.Work.{ended}
use Rattle.afr_report.specs.Workers.{is_worker_killed}
use Rattle.afr_report.proofs.workers.tally.count_works.Given as goal

abbrev pub invariant-loop-at : goal.invariant-loop-at
invariant-loop-at l = record {
  rounds : l.rounds ≡ ended 17 (reverse (take l.at l.log.items));
  second : l.second ≡ ended 18 (reverse (take l.at l.log.items));
  third : l.third ≡ ended 19 (reverse (take l.at l.log.items));
  killed : l.killed ≡ is_worker_killed (reverse (take l.at l.log.items));
  few : l.rounds ≤ l.at;
  few_second : l.second ≤ l.at;
  few_third : l.third ≤ l.at;
}
