use Rattle.std.proofs.Common.{◌≡◌, ◌≤◌, not, reverse}
use Rattle.afr_base.specs.Majority.{count_below}
use Rattle.afr_model.specs.Safe.{accuses}
use Rattle.afr_trace_safe.proofs.copies.count_quiet.Given as goal

abbrev pub invariant-loop-x : goal.invariant-loop-x
invariant-loop-x l = record {
  count : l.count ≡ count_below l.x (λ x. not (accuses l.plan (reverse l.log) l.g l.kind x l.b.0));
  few : l.count ≤ l.x;
}
