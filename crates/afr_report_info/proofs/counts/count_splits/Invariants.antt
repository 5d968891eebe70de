use Rattle.std.proofs.Common.{◌≡◌, ◌≤◌, ◌+◌, ◌*◌, drop}
use Rattle.afr_report_info.specs.Shown.{splits_shown}
use Rattle.afr_report_info.proofs.counts.count_splits.Given as goal

abbrev pub invariant-loop-object : goal.invariant-loop-object
invariant-loop-object l = record {
  counted : l.splits + splits_shown l.plan l.servers l.among (drop l.object-index l.objects) ≡ splits_shown l.plan l.servers l.among l.objects;
  few : l.splits ≤ 3 * l.object-index;
}
