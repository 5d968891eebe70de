use Rattle.std.proofs.Common.{arith, refl}
use Rattle.std.proofs.lemmas.List.{length-reverse}
use Rattle.afr_trace_follow.proofs.KeepingLemmas.{never}
use Rattle.afr_trace_follow.proofs.following.is_following.Goals as goal

pub returns-then-log-plan : goal.returns-then-log-plan
returns-then-log-plan c = never _ _ refl (λ k. absurd (omega (arith, k.0, length-reverse c.args.log.now)))

pub returns : goal.returns
returns c = (λ yes. (omega (arith, length-reverse c.args.log.now), c.has_moment.ensures.0 yes), λ k. c.has_moment.ensures.1 k.1)
