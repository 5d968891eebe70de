use Rattle.std.proofs.Common.{◌+◌, List, arith, subst, sym}
use Rattle.afr_lines.specs.Work.{Work, work}
use Rattle.afr_lines.specs.declared.line.Line.{Line}
use Rattle.afr_trace_follow.proofs.LogLemmas.{of_whole, one_more, stands_at}
use Rattle.afr_trace_follow.proofs.PartLemmas.{work_from}
use Rattle.afr_trace_follow.specs.Asked.{IsAsked}
use Rattle.afr_trace_follow.proofs.asked.asked_past.Goals as goal

pub loop-position-init : goal.loop-position-init
loop-position-init c = record {
  at =
      subst (λ (w : Work). IsAsked c.args.plan.now (c.args.one + c.args.other) w c.none_asked-asked.result) (sym (work_from c.args.a.0 c.work_start-start.result c.args.log.now c.work_start-start.ensures))
      (c.none_asked-asked.ensures.at c.args.plan.now (c.args.one + c.args.other));
  few = c.none_asked-asked.ensures.few c.work_start-start.result;
}

pub asked_more-asked-requires-clause-here : goal.asked_more-asked-requires-clause-here
asked_more-asked-requires-clause-here c = stands_at c.args.log.now c.loop-position.position c.index-log-position.result c.loop-position-test.true c.index-log-position.is

pub loop-position-preserved : goal.loop-position-preserved
loop-position-preserved c = record {
  at =
      one_more (λ (t : List Line). IsAsked c.args.plan.now (c.args.one + c.args.other) (work c.args.a.0 t) c.asked_more-asked.result) c.args.log.now c.loop-position.position c.index-log-position.result c.loop-position-test.true
      c.index-log-position.is (c.asked_more-asked.ensures.at c.loop-position.invariant.at);
  few = c.asked_more-asked.ensures.few;
}

pub returns : goal.returns
returns c =
    of_whole (λ (t : List Line). IsAsked c.args.plan.now (c.args.one + c.args.other) (work c.args.a.0 t) c.loop-position.asked) c.args.log.now c.loop-position.position (omega (arith, c.loop-position-test.false)) c.loop-position.invariant.at
