use Rattle.std.proofs.Common.{length, reverse}
use Rattle.afr_trace_safe.proofs.GatheredLemmas.{gathered, gathers}
use Rattle.afr_trace_safe.proofs.attempts.attempts_on.Goals as goal

pub loop-i-preserved : goal.loop-i-preserved
loop-i-preserved c = gathers (reverse c.args.log.now) c.args.g (length c.args.log.now) c.loop-i.i _ _ c.loop-i-test.true c.in_ok-keep_attempt.ensures c.loop-i.invariant

pub returns : goal.returns
returns c = gathered (reverse c.args.log.now) c.args.g (length c.args.log.now) c.loop-i.i _ c.loop-i-test.false c.loop-i.invariant
