-- What a transaction shows that may begin is enough for a removal to go on with.
use Rattle.std.proofs.Common.{◌≡◌, ℕ, ◌==◌, true, refl, arith, Option, None, Some}
use Rattle.std.proofs.lemmas.Bool.Decides.{nat_tests}
use Rattle.afr_lines.specs.Areas.{area_for}
use Rattle.afr_model_moves.specs.Honest.{plane_kind}
use Rattle.afr_model_moves.specs.Keeps.{keeps_in}
use Rattle.afr_model_moves.specs.Register.{holder}
use Rattle.afr_discipline.specs.Stands.{number_of, views_of}
use Rattle.afr_discipline.specs.Tests.{suffices_by}
use Rattle.afr_client_transaction.specs.Progress.{TransactionProgress, is_beginning}
use Rattle.afr_client_transaction.specs.Sound.{During, Sound}
use Rattle.afr_client_transaction.specs.declared.stage.Stage.{Stage}
use Rattle.afr_client_transaction.specs.declared.stage.Stage.TheVariants.{Beginning}
use Rattle.afr_client_transaction.proofs.Parts.{both, denied}
use Rattle.afr_client_transaction.proofs.ReadLemmas.{begins_at}
use Rattle.afr_client_entry.specs.Removals.Sound.{IsBase, IsUnbegun}

pub base_of : (t : TransactionProgress) → Sound t → IsBase t.change t.register
base_of t s = record {
  few = s.base.few;
  outside = s.base.outside;
  no_second = refl;
  none_second = refl;
  none_healing = s.base.none_healing;
  held_within = s.base.held_within;
  shown = s.base.shown;
  pre_within = s.base.pre_within;
  done_within = s.base.done_within;
  no_bytes = s.base.no_bytes;
  of_held = s.base.of_held;
}

pub named_of : (t : TransactionProgress) → Sound t → is_beginning t.stage ≡ true → t.register.area ≡ Some (area_for t.change)
named_of t s is = go t.stage (begins_at t.stage is) s.during
  where
    go : (stage : Stage) → stage ≡ Beginning → During stage t → t.register.area ≡ Some (area_for t.change)
    go Beginning e d = d.0
    go stage e d = absurd (cc e)

pub unbegun_of : (t : TransactionProgress) → Sound t → is_beginning t.stage ≡ true → IsUnbegun t.register
unbegun_of t s is = go t.stage (begins_at t.stage is) s.during
  where
    none_begun : (o : Option ℕ) → (number_of o == 0) ≡ true → o ≡ None
    none_begun None h = refl
    none_begun (Some q) h = absurd (grind (arith, nat_tests, h))

    go : (stage : Stage) → stage ≡ Beginning → During stage t → IsUnbegun t.register
    go Beginning e d =
        let r = t.register in
        let split = both _ (suffices_by r.shape.n (keeps_in r.shape) (plane_kind t.change) (views_of r.looked) (holder (views_of r.looked))) d.1 in
        let first = both _ _ (both _ _ (both _ _ (both _ _ (both _ _ split.0).0).0).0).0 in
        record { first = none_begun r.begun first.0; open_still = denied r.unlocked first.1 }
    go stage e d = absurd (cc e)
