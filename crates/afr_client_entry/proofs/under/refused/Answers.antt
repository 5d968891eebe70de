use Rattle.std.proofs.Common.{◌≡◌, sym, ap, ◌∙◌}
use Rattle.afr_lines.specs.declared.line.Next.TheVariants as next
use Rattle.afr_client_entry.proofs.NextLemmas.{refused_ends}
use Rattle.afr_client_entry.proofs.under.refused.Goals as goal

pub returns-then-is_over-clause-some : goal.returns-then-is_over-clause-some
returns-then-is_over-clause-some c = λ said e at asked.
    let same : c.reply_to.result ≡ said = cc e in
    refused_ends c.args.why asked c.args.transaction.now at (sym c.is_over.ensures ∙ c.if-is_over.true) ∙ ap next.End (sym c.reply_to.ensures ∙ same)
