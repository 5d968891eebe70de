-- The report by whether the healers crawl, where they do.
use Rattle.std.proofs.Common.{◌≡◌, Bool, IfOk, string_bytes, subst}
use Rattle.afr_report.specs.Workers.{report_for}
use Rattle.afr_cli.proofs.recording.crawl_report.Goals as goal

pub returns : goal.returns
returns c = record {
  ok = subst (λ (crawl : Bool). IfOk c.report_text.result (λ text. string_bytes text ≡ report_for crawl c.args.volume.now.plan c.args.volume.now.log)) c.requires.crawl c.report_text.ensures.ok;
}
