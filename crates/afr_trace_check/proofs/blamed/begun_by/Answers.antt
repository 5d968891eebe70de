use Rattle.std.proofs.Common.{refl, arith, ◌∙◌, reverse, take, sym, ap}
use Rattle.afr_lines.specs.Work.{work}
use Rattle.afr_model.specs.Showing.{begun_after, begun_by}
use Rattle.afr_trace_check.proofs.WorkLemmas.{whole, work_next}
use Rattle.afr_trace_follow.proofs.PartLemmas.{work_from}
use Rattle.afr_trace_follow.proofs.LogLemmas.{length_before}
use Rattle.afr_trace_check.proofs.blamed.begun_by.Goals as goal

pub loop-position-init : goal.loop-position-init
loop-position-init c = sym (ap begun_by (work_from c.args.a.0 c.work_start-start.result c.args.log.now c.work_start-start.ensures))

pub loop-position-preserved : goal.loop-position-preserved
loop-position-preserved c =
    c.begun_more-begun.ensures (reverse (take c.loop-position.position c.args.log.now)) (length_before c.args.log.now c.loop-position.position (omega (arith, c.loop-position-test.true)))
    ∙ work_next begun_by (λ line older was. begun_after line older was) (λ line older w. refl) c.args.a.0 c.args.log.now c.loop-position.position c.index-log-position.result c.loop-position.begun c.loop-position-test.true
    c.index-log-position.is c.loop-position.invariant

pub returns : goal.returns
returns c = whole (λ log. begun_by (work c.args.a.0 log)) c.args.log.now c.loop-position.position c.loop-position.begun (omega (arith, c.loop-position-test.false)) c.loop-position.invariant
