use Rattle.std.proofs.Common.{[], refl}
use Rattle.afr_trace_tally.specs.Actors.{IsActorTally}
use Rattle.afr_trace_tally.proofs.PlaceLemmas.{each_replicate}
use Rattle.afr_trace_tally.proofs.tally.new_actors.Goals as goal

pub returns : goal.returns
returns c = λ p. record { twenty = refl; each = each_replicate (IsActorTally p []) 20 c.new_actor.result (λ a. c.new_actor.ensures p a) }
