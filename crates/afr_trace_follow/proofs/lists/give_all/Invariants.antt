use Rattle.std.proofs.Common.{◌≡◌, ◌∷◌, length, reverse}
use Rattle.afr_trace_tally.proofs.PlaceLemmas.{IsBetween}
use Rattle.afr_trace_follow.specs.Lists.{IsGivenTo}
use Rattle.afr_trace_follow.proofs.lists.give_all.Given as goal

abbrev pub invariant-loop-i : goal.invariant-loop-i
invariant-loop-i l = record {
  three : length l.given.items ≡ 3;
  between : IsBetween (IsGivenTo l.plan (l.line ∷ reverse l.older)) (IsGivenTo l.plan (reverse l.older)) l.i l.given.items;
}
