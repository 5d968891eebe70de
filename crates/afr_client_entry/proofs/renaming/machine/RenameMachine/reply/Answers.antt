use Rattle.std.proofs.Common.{◌≡◌, false, sym, subst, None, Some}
use Rattle.afr_lines.specs.declared.line.Next.TheVariants as next
use Rattle.afr_client_entry.specs.Renames.Rename.{Renaming, is_over, next_at, next_of}
use Rattle.afr_client_entry.specs.declared.renaming.stage.RenameStage.{RenameStage}
use Rattle.afr_client_entry.proofs.renaming.machine.RenameMachine.reply.Goals as goal

pub returns-in-Making-clause-some : goal.returns-in-Making-clause-some
returns-in-Making-clause-some c = λ said e at.
    subst (λ (m : Renaming). next_of at m ≡ next.End said) c.self.view_is
    (subst (λ (stage : RenameStage). next_at at stage c.self.inside.paths ≡ next.End said) (sym c.in-Making.is) (c.making_end.ensures.some said e at c.self.inside.paths))

pub returns-in-Removing-clause-some : goal.returns-in-Removing-clause-some
returns-in-Removing-clause-some c = λ said e at.
    let same : c.removing_end.result ≡ Some said = cc e in
    subst (λ (m : Renaming). next_of at m ≡ next.End said) c.self.view_is
    (subst (λ (stage : RenameStage). next_at at stage c.self.inside.paths ≡ next.End said) (sym c.in-Removing.is)
    (c.removing_end.ensures.some said same c.in-Removing.field-1 at c.self.inside.paths))

pub returns-in-Removing-clause-none : goal.returns-in-Removing-clause-none
returns-in-Removing-clause-none c = λ e.
    let same : c.removing_end.result ≡ None = cc e in
    subst (λ (m : Renaming). is_over m.stage ≡ false) c.self.view_is (subst (λ (stage : RenameStage). is_over stage ≡ false) (sym c.in-Removing.is) (c.removing_end.ensures.none same))
