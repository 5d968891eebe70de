use Rattle.std.proofs.Common.{refl}
use Rattle.afr_trace_follow.proofs.AskedLemmas.{none_is}
use Rattle.afr_trace_follow.proofs.asked.none_asked.Goals as goal

pub returns-clause-at : goal.returns-clause-at
returns-clause-at c = λ p k. none_is p k _ refl refl refl refl
