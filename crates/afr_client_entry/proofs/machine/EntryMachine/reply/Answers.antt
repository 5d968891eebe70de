use Rattle.std.proofs.Common.{◌≡◌, sym, subst, ◌∙◌}
use Rattle.afr_lines.specs.declared.line.Next.TheVariants as next
use Rattle.afr_client_entry.specs.Entry.{Entering, next_at, next_of, reads_name}
use Rattle.afr_client_entry.specs.declared.stage.EntryStage.{EntryStage}
use Rattle.afr_client_entry.proofs.NextLemmas.{same_under}
use Rattle.afr_client_entry.proofs.machine.EntryMachine.reply.Goals as goal

pub returns-in-Changing-clause-some : goal.returns-in-Changing-clause-some
returns-in-Changing-clause-some c = λ said e at.
    subst (λ (m : Entering). next_of at m ≡ next.End said) c.self.view_is
    (subst (λ (stage : EntryStage). next_at at stage c.self.inside.job c.self.inside.walk ≡ next.End said) (sym c.in-Changing.is)
    (sym (same_under c.in-Changing.found c.self.inside.job c.self.inside.walk c.in-Changing.transaction at) ∙ c.end_under.ensures.some said e at (reads_name c.self.inside.job c.self.inside.walk)))

pub returns-in-Removes-clause-some : goal.returns-in-Removes-clause-some
returns-in-Removes-clause-some c = λ said e at.
    subst (λ (m : Entering). next_of at m ≡ next.End said) c.self.view_is
    (subst (λ (stage : EntryStage). next_at at stage c.self.inside.job c.self.inside.walk ≡ next.End said) (sym c.in-Removes.is) (c.end.ensures.some said e))
