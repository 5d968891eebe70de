use Rattle.std.proofs.Common.{◌≡◌, sym, subst}
use Rattle.afr_lines.specs.declared.line.Next.TheVariants.{Ask}
use Rattle.afr_client_entry.specs.Renames.Rename.{Renaming, next_at, next_of}
use Rattle.afr_client_entry.specs.declared.renaming.stage.RenameStage.{RenameStage}
use Rattle.afr_client_entry.proofs.renaming.machine.RenameMachine.ask.Goals as goal

pub returns-in-Making-clause-some : goal.returns-in-Making-clause-some
returns-in-Making-clause-some c b some at =
    subst (λ (m : Renaming). next_of at m ≡ Ask b c.making_asks.new.request) c.self.view_is
    (subst (λ (stage : RenameStage). next_at at stage c.self.inside.paths ≡ Ask b c.making_asks.new.request) (sym c.in-Making.is) (c.making_asks.ensures.some b some at))

pub returns-in-Removing-clause-some : goal.returns-in-Removing-clause-some
returns-in-Removing-clause-some c b some at =
    subst (λ (m : Renaming). next_of at m ≡ Ask b c.removing_asks.new.request) c.self.view_is
    (subst (λ (stage : RenameStage). next_at at stage c.self.inside.paths ≡ Ask b c.removing_asks.new.request) (sym c.in-Removing.is) (c.removing_asks.ensures.some b some at))
