use Rattle.afr_heal.proofs.Spared.{stays_spare}
use Rattle.afr_heal.proofs.laws.each_heal_has_room.Goals as goal

pub returns : goal.returns
returns c = stays_spare
