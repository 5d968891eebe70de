use Rattle.std.proofs.Common.{◌≡◌, ◌∷◌, length, reverse}
use Rattle.afr_trace_tally.proofs.PlaceLemmas.{IsBetween}
use Rattle.afr_trace_tally.specs.Actors.{IsActorTally}
use Rattle.afr_trace_tally.proofs.tally.add_to_actors.Given as goal

abbrev pub invariant-loop-a : goal.invariant-loop-a
invariant-loop-a l = record {
  twenty : length l.actors ≡ 20;
  between : IsBetween (IsActorTally l.plan (l.line ∷ reverse l.older)) (IsActorTally l.plan (reverse l.older)) l.a l.actors;
}
