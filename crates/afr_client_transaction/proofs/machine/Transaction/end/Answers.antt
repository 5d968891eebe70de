use Rattle.std.proofs.Common.{◌≡◌, true, sym, ap, subst, ◌∙◌}
use Rattle.afr_lines.specs.declared.line.Next.{Next}
use Rattle.afr_lines.specs.declared.line.Next.TheVariants as next
use Rattle.afr_client_transaction.specs.Progress.{allowed}
use Rattle.afr_client_transaction.proofs.Allowed.{allowed_next}
use Rattle.afr_client_transaction.proofs.Kept.{ends_at}
use Rattle.afr_client_transaction.proofs.machine.Transaction.end.Goals as goal

pub returns-clause-allowed : goal.returns-clause-allowed
returns-clause-allowed c = λ said e.
    let same : c.in_ok-reply.reply ≡ said = cc e in
    subst (λ (n : Next). allowed c.args.self.now.register n ≡ true)
    (ends_at c.args.self.now.stage 0 c.args.self.now (sym c.is_over.ensures ∙ c.if-not-is_over.false) ∙ ap next.End (sym c.in_ok-reply.ensures ∙ same))
    (allowed_next c.args.self.now c.stays_sound.ensures 0)
