use Rattle.std.proofs.Common.{refl}
use Rattle.afr_trace_follow.proofs.StandLemmas.{none_at}
use Rattle.afr_trace_follow.proofs.stand.at_start.Goals as goal

pub returns-clause-at : goal.returns-clause-at
returns-clause-at c = λ p k. none_at p k _ c.at_root.ensures c.at_root-2.ensures refl
