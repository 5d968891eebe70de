use Rattle.std.proofs.Common.{◌≡◌, sym, subst}
use Rattle.afr_lines.specs.declared.line.Next.TheVariants as next
use Rattle.afr_client_entry.specs.Renames.Under.{next_under}
use Rattle.afr_client_entry.specs.declared.stage.Found.{Found}
use Rattle.afr_client_entry.proofs.NextLemmas.{fitting_ends}
use Rattle.afr_client_entry.proofs.under.end_under.Goals as goal

pub returns-in-Refused-clause-some : goal.returns-in-Refused-clause-some
returns-in-Refused-clause-some c = λ said e at asked.
    subst (λ (found : Found). next_under found at asked c.args.transaction.now ≡ next.End said) (sym c.in-Refused.is) (c.refused.ensures.some said e at asked)

pub returns-in_default-clause-some : goal.returns-in_default-clause-some
returns-in_default-clause-some c = λ said e at asked. fitting_ends c.args.found asked c.args.transaction.now at said c.in_default.not-Refused (c.end.ensures.some said e at)
