use Rattle.std.proofs.Common.{◌≡◌, ◌≤◌, take}
use Rattle.std.specs.Prelude.{count_by}
use Rattle.afr_report.specs.Summary.Summary.{ends_ok, ends_refused, ends_settled}
use Rattle.afr_report.proofs.summed.ends.count_ends.Given as goal

abbrev pub invariant-loop-at : goal.invariant-loop-at
invariant-loop-at l = record {
  ok : l.ok ≡ count_by ends_ok (take l.at l.log.items);
  refused : l.refused ≡ count_by ends_refused (take l.at l.log.items);
  settled : l.settled ≡ count_by ends_settled (take l.at l.log.items);
  few : l.ok ≤ l.at;
  few_refused : l.refused ≤ l.at;
  few_settled : l.settled ≤ l.at;
}
