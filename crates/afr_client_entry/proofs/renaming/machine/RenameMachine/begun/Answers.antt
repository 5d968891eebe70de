use Rattle.std.proofs.Common.{sym, subst}
use Rattle.afr_client_entry.specs.Renames.Rename.{IsRename}
use Rattle.afr_client_entry.specs.declared.renaming.stage.RenameStage.{RenameStage}
use Rattle.afr_client_entry.proofs.Renames.RenameLemmas.{kept_begun}
use Rattle.afr_client_entry.proofs.renaming.machine.RenameMachine.begun.Goals as goal

pub invariant_of-self : goal.invariant_of-self
invariant_of-self c =
    subst (λ (stage : RenameStage). IsRename c.self.inside.paths stage) (sym c.stage_begun.ensures)
    (kept_begun c.self.inside.stage c.args.at c.self.inside.paths c.self.invariant)
