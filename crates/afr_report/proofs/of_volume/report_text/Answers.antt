-- The report by whether the healers crawl.
use Rattle.std.proofs.Common.{◌≡◌, ◌∙◌, Bool, IfOk, string_bytes, subst, sym}
use Rattle.afr_report.specs.Workers.{report_for}
use Rattle.afr_report.proofs.of_volume.report_text.Goals as goal

pub returns-then-is_crawl : goal.returns-then-is_crawl
returns-then-is_crawl c = record {
  ok = subst (λ (crawl : Bool). IfOk c.crawl_text.result (λ text. string_bytes text ≡ report_for crawl c.args.volume.now.plan c.args.volume.now.log)) (sym (sym c.is_crawl.ensures ∙ c.if-is_crawl.true)) c.crawl_text.ensures.ok;
}

pub returns-else-is_crawl : goal.returns-else-is_crawl
returns-else-is_crawl c = record {
  ok = subst (λ (crawl : Bool). IfOk c.rounds_text.result (λ text. string_bytes text ≡ report_for crawl c.args.volume.now.plan c.args.volume.now.log)) (sym (sym c.is_crawl.ensures ∙ c.if-is_crawl.false)) c.rounds_text.ensures.ok;
}
