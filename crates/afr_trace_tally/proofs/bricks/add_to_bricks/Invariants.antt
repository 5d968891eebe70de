use Rattle.std.proofs.Common.{◌≡◌, ◌∷◌, length, reverse}
use Rattle.afr_trace_tally.proofs.PlaceLemmas.{IsBetween}
use Rattle.afr_trace_tally.specs.Bricks.{IsBrickTally}
use Rattle.afr_trace_tally.proofs.bricks.add_to_bricks.Given as goal

abbrev pub invariant-loop-b : goal.invariant-loop-b
invariant-loop-b l = record {
  five : length l.bricks.items ≡ 5;
  between : IsBetween (IsBrickTally l.plan (l.line ∷ reverse l.older)) (IsBrickTally l.plan (reverse l.older)) l.b l.bricks.items;
}
