use Rattle.std.proofs.Common.{◌∙◌, List, arith, reverse, take}
use Rattle.std.proofs.lemmas.Result.{IfOk-weaker}
use Rattle.afr_lines.specs.declared.line.Line.{Line}
use Rattle.afr_trace_follow.proofs.LogLemmas.{of_whole, one_more}
use Rattle.afr_trace_follow.proofs.MarkedLemmas.{marked_is, none_listed}
use Rattle.afr_trace_follow.specs.Marked.{IsListing}
use Rattle.afr_trace_follow.proofs.marked.marked_on.Goals as goal

pub loop-position-init : goal.loop-position-init
loop-position-init c = none_listed c.args.plan.now (reverse c.args.log.now) c.args.b.0 c.new-index.result c.new-index.ensures

pub loop-position-preserved : goal.loop-position-preserved
loop-position-preserved c =
    one_more (λ (t : List Line). IsListing c.args.plan.now (reverse c.args.log.now) c.args.b.0 t c.list_more.new.index) c.args.log.now c.loop-position.position c.index-log-position.result c.loop-position-test.true c.index-log-position.is
    (c.in_ok-list_more.ensures.ok (reverse (take c.loop-position.position c.args.log.now)) c.loop-position.invariant)

pub returns : goal.returns
returns c =
    IfOk-weaker c.list.result _ _
    (λ list h.
    h
    ∙ marked_is c.args.plan.now (reverse c.args.log.now) c.args.b.0 c.loop-position.index c.list.ensures.rising
    (of_whole (λ (t : List Line). IsListing c.args.plan.now (reverse c.args.log.now) c.args.b.0 t c.loop-position.index) c.args.log.now c.loop-position.position (omega (arith, c.loop-position-test.false)) c.loop-position.invariant))
    c.list.ensures.ok
