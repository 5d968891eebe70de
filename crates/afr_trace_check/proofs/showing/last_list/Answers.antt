use Rattle.std.proofs.Common.{arith, ◌∙◌, reverse, take}
use Rattle.afr_trace_check.specs.Works.{last_list}
use Rattle.afr_trace_check.proofs.WorkLemmas.{list_next, whole}
use Rattle.afr_trace_follow.proofs.LogLemmas.{length_before}
use Rattle.afr_trace_check.proofs.showing.last_list.Goals as goal

pub loop-position-preserved : goal.loop-position-preserved
loop-position-preserved c =
    c.list_more-found.ensures (reverse (take c.loop-position.position c.args.log.now)) (length_before c.args.log.now c.loop-position.position (omega (arith, c.loop-position-test.true)))
    ∙ list_next c.args.a.0 c.args.log.now c.loop-position.position c.index-log-position.result c.loop-position.found c.loop-position-test.true c.index-log-position.is c.loop-position.invariant

pub returns : goal.returns
returns c = whole (last_list c.args.a.0) c.args.log.now c.loop-position.position c.loop-position.found (omega (arith, c.loop-position-test.false)) c.loop-position.invariant
