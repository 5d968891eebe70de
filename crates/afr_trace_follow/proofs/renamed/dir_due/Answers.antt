use Rattle.std.proofs.Common.{◌∙◌, reverse, sym}
use Rattle.afr_lines.specs.Work.{work}
use Rattle.afr_trace_follow.proofs.AskedLemmas.{again_due, next_due, root_due}
use Rattle.afr_trace_follow.proofs.renamed.dir_due.Goals as goal

pub returns-then-same_number : goal.returns-then-same_number
returns-then-same_number c =
    root_due c.args.plan.now c.args.from.now c.args.to.now (work c.args.a.0 (reverse c.args.log.now)) c.args.names c.requires.names c.same_number.result c.same_number.ensures c.if-same_number.true

pub returns-then-is_sum : goal.returns-then-is_sum
returns-then-is_sum c =
    c.asked_at.ensures.dir
    ∙ again_due c.args.plan.now c.args.from.now c.args.to.now (work c.args.a.0 (reverse c.args.log.now)) c.args.names c.requires.names c.same_number.result c.same_number.ensures c.if-same_number.false (sym c.is_sum.ensures ∙ c.if-is_sum.true)

pub returns : goal.returns
returns c =
    c.dir_next.ensures
    ∙ next_due c.args.plan.now c.args.from.now c.args.to.now (work c.args.a.0 (reverse c.args.log.now)) c.args.names c.requires.names c.same_number.result c.same_number.ensures c.if-same_number.false (sym c.is_sum.ensures ∙ c.if-is_sum.false)
