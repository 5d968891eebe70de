use Rattle.std.proofs.Common.{◌≡◌, sym, subst, true, false}
use Rattle.afr_lines.specs.declared.line.Next.TheVariants as next
use Rattle.afr_discipline.specs.Free.{is_ask}
use Rattle.afr_client_entry.specs.Renames.Paths.{reads_old}
use Rattle.afr_client_entry.specs.Renames.Rename.{Renaming, is_over, next_at, next_of}
use Rattle.afr_client_entry.specs.declared.renaming.stage.RenameStage.{RenameStage}
use Rattle.afr_client_entry.proofs.NextLemmas.{removing_begins, removing_over}
use Rattle.afr_client_entry.proofs.renaming.machine.RenameMachine.change.Goals as goal

pub returns-in-Making-clause-some : goal.returns-in-Making-clause-some
returns-in-Making-clause-some c = λ change e.
    subst (λ (m : Renaming). next_of c.args.at m ≡ next.Begin change) c.self.view_is
    (subst (λ (stage : RenameStage). next_at c.args.at stage c.self.inside.paths ≡ next.Begin change) (sym c.in-Making.is) (c.making_begins.ensures.some change e c.self.inside.paths))

pub returns-in-Making-clause-none : goal.returns-in-Making-clause-none
returns-in-Making-clause-none c = λ none.
    subst (λ (m : Renaming). is_ask (next_of c.args.at m) ≡ false → is_over m.stage ≡ true) c.self.view_is
    (subst (λ (stage : RenameStage). is_ask (next_at c.args.at stage c.self.inside.paths) ≡ false → is_over stage ≡ true) (sym c.in-Making.is) (c.making_begins.ensures.none none c.self.inside.paths))

pub returns-in-Removing-clause-some : goal.returns-in-Removing-clause-some
returns-in-Removing-clause-some c = λ change e.
    subst (λ (m : Renaming). next_of c.args.at m ≡ next.Begin change) c.self.view_is
    (subst (λ (stage : RenameStage). next_at c.args.at stage c.self.inside.paths ≡ next.Begin change) (sym c.in-Removing.is)
    (removing_begins c.self.inside.paths c.in-Removing.transaction c.in-Removing.found c.args.at change (c.begins_under.ensures.some change e (reads_old c.self.inside.paths))))

pub returns-in-Removing-clause-none : goal.returns-in-Removing-clause-none
returns-in-Removing-clause-none c = λ none.
    subst (λ (m : Renaming). is_ask (next_of c.args.at m) ≡ false → is_over m.stage ≡ true) c.self.view_is
    (subst (λ (stage : RenameStage). is_ask (next_at c.args.at stage c.self.inside.paths) ≡ false → is_over stage ≡ true) (sym c.in-Removing.is)
    (removing_over c.self.inside.paths c.in-Removing.transaction c.in-Removing.found c.args.at (c.begins_under.ensures.none none (reads_old c.self.inside.paths))))
