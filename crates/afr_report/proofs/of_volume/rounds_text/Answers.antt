use Rattle.std.proofs.Common.{◌≡◌, IfOk, List, reverse, string_bytes, subst}
use Rattle.afr_lines.specs.declared.line.Line.{Line}
use Rattle.afr_plan.specs.declared.plan.Plan.{Plan}
use Rattle.afr_model.specs.ReportHealers.{report_of}
use Rattle.afr_report_info.proofs.VolumeLemmas.{handed_out}
use Rattle.afr_report.proofs.of_volume.rounds_text.Goals as goal

pub returns : goal.returns
returns c =
    let held =
    handed_out c.args.volume.now.plan c.plan.result.now c.args.volume.now.log (reverse c.lines.result.now.items) c.reach.result c.servers.result.now
    c.plan.ensures c.lines.ensures c.reach.ensures c.servers.ensures.few c.servers.ensures.tables c.servers.ensures.started in
    record {
      ok =
          subst (λ (p : Plan). IfOk c.print_report.result (λ text. string_bytes text ≡ report_of p c.args.volume.now.log)) c.plan.ensures
          (subst (λ (log : List Line). IfOk c.print_report.result (λ text. string_bytes text ≡ report_of c.plan.result.now log)) c.lines.ensures
          (c.print_report.ensures.ok held));
    }
