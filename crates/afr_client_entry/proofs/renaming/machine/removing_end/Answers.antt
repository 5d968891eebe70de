use Rattle.std.proofs.Common.{◌≡◌, ap, sym, ◌∙◌}
use Rattle.afr_lines.specs.declared.line.Next.TheVariants as next
use Rattle.afr_client_transaction.specs.declared.reply.TransactionOutcome.{TransactionOutcome}
use Rattle.afr_client_entry.specs.Renames.Against.{half_reply}
use Rattle.afr_client_entry.proofs.NextLemmas.{removing_ends}
use Rattle.afr_client_entry.proofs.renaming.machine.removing_end.Goals as goal

pub returns-then-is_over-clause-some : goal.returns-then-is_over-clause-some
returns-then-is_over-clause-some c = λ said e found at x.
    let same : c.half_reply.result ≡ said = cc e in
    removing_ends x c.args.transaction.now found at (sym c.is_over.ensures ∙ c.if-is_over.true)
    ∙ ap next.End (sym (c.half_reply.ensures ∙ ap (λ (o : TransactionOutcome). half_reply o) c.outcome.ensures) ∙ same)
