-- The lines of a second transaction tell of it as those of a first one do.
use Rattle.std.proofs.Common.{◌∷◌, length, refl, sym, subst, inr}
use Rattle.afr_client_transaction.specs.Progress.{starting}
use Rattle.afr_client_transaction.proofs.Kept.{sound_first}
use Rattle.afr_law_client.specs.Laws.{TellsFirst, TellsKept}
use Rattle.afr_law_client.specs.Tells.{Tells}
use Rattle.afr_client_transaction.specs.Again.Again.{AgainSound, opened}
use Rattle.afr_law_client.specs.Second.Second.{SecondTells}

pub second_tells : AgainSound → TellsFirst → TellsKept → SecondTells
second_tells again first kept p walk m change a told line older s plain some over suits is_first next =
    let f = again m change told (length older) s plain some over suits in
    subst (Tells p ((line, older) ∷ walk)) (sym f.alike)
    (kept p walk (starting change (opened m.register.shape)) a told line older (sound_first (opened m.register.shape) change (inr refl) s.base.few some suits) (first p walk (starting change (opened m.register.shape)) is_first) next)
