use Rattle.std.proofs.Common.{◌≡◌, ◌≤◌, ◌+◌, ◌*◌, ◌++◌, drop}
use Rattle.std.specs.Prelude.{string_bytes}
use Rattle.afr_report_info.specs.Shown.{lines_shown, splits_shown}
use Rattle.afr_report_info.proofs.objects.push_each.Given as goal

abbrev pub invariant-loop-object : goal.invariant-loop-object
invariant-loop-object l = record {
  text : string_bytes l.out ++ lines_shown l.plan l.servers l.among (drop l.object-index l.objects) ≡ string_bytes l.fn.out ++ lines_shown l.plan l.servers l.among l.objects;
  counted : l.splits + splits_shown l.plan l.servers l.among (drop l.object-index l.objects) ≡ splits_shown l.plan l.servers l.among l.objects;
  few : l.splits ≤ 3 * l.object-index;
}
