use Rattle.afr_law_bound.proofs.Ends.Eager.{eager_ends}
use Rattle.afr_law_bound.proofs.Ends.Ends.{ends_done, ends_within}
use Rattle.afr_law_bound.proofs.ended_within.an_ordered_run_ends.Goals as goal

pub returns : goal.returns
returns c = record {
  within = λ p log k paced order a actor left. ends_within p log k paced order a actor left;
  done = λ p log k paced order whole room a actor. ends_done p log k paced order whole room a actor;
  eager = λ p log k paced eager a actor left. eager_ends p log k paced eager a actor left;
}
