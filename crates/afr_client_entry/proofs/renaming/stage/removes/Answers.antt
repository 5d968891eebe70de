use Rattle.std.proofs.Common.{ap, ◌∙◌}
use Rattle.afr_object.specs.declared.change.Change.{Change}
use Rattle.afr_client_transaction.specs.Progress.{TransactionProgress, fed, starting}
use Rattle.afr_client_transaction.specs.declared.stage.Stage.TheVariants.{Locking}
use Rattle.afr_client_entry.specs.Renames.Rename.{unread}
use Rattle.afr_client_entry.specs.declared.renaming.stage.RenameStage.TheVariants.{Removing}
use Rattle.afr_client_entry.proofs.renaming.stage.removes.Goals as goal

pub returns : goal.returns
returns c = ap (λ (q : TransactionProgress). Removing q unread) (c.begins_again-removing.ensures ∙ ap (λ (change : Change). fed Locking c.args.told.now c.args.at (starting change c.args.making.now.register)) c.removal_of.ensures)
