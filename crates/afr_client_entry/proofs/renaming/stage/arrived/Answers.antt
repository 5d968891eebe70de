use Rattle.afr_client_entry.proofs.Renames.RenameLemmas.{second_unused}
use Rattle.afr_client_entry.proofs.renaming.stage.arrived.Goals as goal

pub continuing-making-requires-clause-unused : goal.continuing-making-requires-clause-unused
continuing-making-requires-clause-unused c = (second_unused c.args.paths.now c.requires).0

pub continuing-making-requires-clause-few : goal.continuing-making-requires-clause-few
continuing-making-requires-clause-few c = (second_unused c.args.paths.now c.requires).1

pub continuing-making-requires-clause-some : goal.continuing-making-requires-clause-some
continuing-making-requires-clause-some c = (second_unused c.args.paths.now c.requires).2
