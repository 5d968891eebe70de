use Rattle.std.proofs.Common.{◌≡◌, [], length}
use Rattle.afr_trace_tally.proofs.PlaceLemmas.{EachAt}
use Rattle.afr_trace_tally.specs.Bricks.{IsBrickTally}
use Rattle.afr_trace_tally.proofs.bricks.new_bricks.Given as goal

abbrev pub invariant-loop-b : goal.invariant-loop-b
invariant-loop-b l = record {
  count : length l.bricks.items ≡ l.b;
  each : EachAt (IsBrickTally l.plan []) l.bricks.items;
}
