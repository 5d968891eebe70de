use Rattle.std.proofs.Common.{◌≡◌, IfOk, List, subst}
use Rattle.afr_lines.specs.declared.line.Line.{Line}
use Rattle.afr_plan.specs.declared.plan.Plan.{Plan}
use Rattle.afr_report_trace.specs.Lines.{trace_of}
use Rattle.afr_report.proofs.of_volume.gathered_trace.Goals as goal

pub returns : goal.returns
returns c = record {
  ok =
      subst (λ (p : Plan). IfOk c.gather_trace.result (λ gathered. gathered ≡ trace_of p c.args.volume.now.log)) c.plan.ensures
      (subst (λ (log : List Line). IfOk c.gather_trace.result (λ gathered. gathered ≡ trace_of c.plan.result.now log)) c.lines.ensures c.gather_trace.ensures);
}
