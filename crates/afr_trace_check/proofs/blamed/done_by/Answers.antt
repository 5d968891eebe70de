use Rattle.std.proofs.Common.{arith}
use Rattle.afr_trace_check.specs.Grounds.{doing, over}
use Rattle.afr_trace_check.proofs.WorkLemmas.{over_next, whole}
use Rattle.afr_trace_tally.proofs.LogLemmas.{known_at}
use Rattle.afr_trace_check.proofs.blamed.done_by.Goals as goal

pub doing-bricks-requires : goal.doing-bricks-requires
doing-bricks-requires c = known_at c.args.log.now c.loop-position.position c.index-log-position.result c.loop-position-test.true c.index-log-position.is c.requires

pub loop-position-preserved : goal.loop-position-preserved
loop-position-preserved c =
    over_next (doing c.args.attempt) c.args.log.now c.loop-position.position c.index-log-position.result c.loop-position.bricks c.doing-bricks.result c.loop-position-test.true c.index-log-position.is c.doing-bricks.ensures
    c.loop-position.invariant

pub returns : goal.returns
returns c = whole (λ log. over (doing c.args.attempt) log) c.args.log.now c.loop-position.position c.loop-position.bricks (omega (arith, c.loop-position-test.false)) c.loop-position.invariant
