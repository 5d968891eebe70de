use Rattle.std.proofs.Common.{refl}
use Rattle.afr_volume.proofs.HealerLemmas.{found_at}
use Rattle.afr_volume.proofs.healers.rest_first.Goals as goal

pub returns : goal.returns
returns c = record { before = c.index_mut.result.now; was = found_at _ _ _ c.requires c.index_mut.ensures.value; set_is = refl }
