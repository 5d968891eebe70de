-- Who takes part in the attempt: what the register says, and what the lines do.
use Rattle.std.proofs.Common.{◌≡◌, ℕ, ◌&&◌, Bool, true, false, List, None, refl, sym, ap, ◌∙◌}
use Rattle.afr_base.specs.Bricks.{member, IsIn}
use Rattle.afr_base.specs.declared.ids.Gfid.{Gfid}
use Rattle.afr_base.specs.declared.ids.Kind.TheVariants.{Names}
use Rattle.afr_base.specs.declared.ids.NameId.{NameId}
use Rattle.afr_base.specs.declared.ids.Shape.{Shape}
use Rattle.afr_choice.specs.Verdict.{holders_of}
use Rattle.afr_choice.specs.declared.looked.Looked.{Looked}
use Rattle.afr_discipline.specs.declared.register.Register.{Register}
use Rattle.afr_discipline.proofs.FirstLemmas.{in_common}
use Rattle.afr_lines.specs.Areas.{area_for}
use Rattle.afr_lines.specs.Work.{Work}
use Rattle.afr_lines.specs.declared.request.Area.TheVariants.{Name}
use Rattle.afr_object.specs.Tables.{object_of}
use Rattle.afr_object.specs.declared.change.Change.{Change}
use Rattle.afr_plan.specs.declared.plan.Plan.{Plan}
use Rattle.afr_model.specs.Refusals.{meets}
use Rattle.afr_model.specs.Showing.{looked_by}
use Rattle.afr_model.specs.Standing.{suffices, up_to}
use Rattle.afr_client_entry.specs.Removals.Removal.{both_held, has_takers, takers_of}
use Rattle.afr_client_entry.specs.Removals.Sound.{IsBase}
use Rattle.afr_client_transaction.specs.Progress.{enough}
use Rattle.afr_law_client.proofs.Views.{same_enough}
use Rattle.afr_law_client.specs.Removal.RemovalTelling.{AreHeld, RemovalGoes, held_in, takers_by}
use Rattle.afr_law_client.proofs.Removal.Small.{both_are, suffices_same}

module _ (p : Plan) (path : List NameId) (change : Change) (r : Register) (child : Gfid) (w : Work) (base : IsBase change r) (k : RemovalGoes p path change r child w) where
  abbrev g : Gfid
  g = object_of change

  -- the discipline's test is the model's
  pub enough_is : (s : List ℕ) → enough r Names s ≡ suffices p.shape Names (looked_by g w) s
  enough_is s =
      same_enough r.shape r.looked Names base.few base.shown s
      ∙ ap (λ (x : Shape). suffices x Names r.looked s) k.shape
      ∙ ap (λ (x : Looked). suffices p.shape Names x s) k.looks

  module _ (held : AreHeld (area_for change) (Name child None) r w) (head : up_to (meets child) w ≡ w) where
    turn : (x y z : Bool) → ((y && x) && z) ≡ (x && (y && z))
    turn true y z = go y
      where
        go : (y : Bool) → ((y && true) && z) ≡ (y && z)
        go true = refl
        go false = refl
    turn false true z = refl
    turn false false z = refl

    by_lines : (b : ℕ) → member (takers_by change child w) b ≡ (held_in (area_for change) w b && (held_in (Name child None) w b && member (holders_of (looked_by g w)) b))
    by_lines b =
        both_are (area_for change) g child w b
        ∙ ap (λ (x : Work). held_in (area_for change) x b && (held_in (Name child None) x b && member (holders_of (looked_by g w)) b)) head

    pub same_takers : (b : ℕ) → member (takers_of r) b ≡ member (takers_by change child w) b
    same_takers b =
        in_common (holders_of r.looked) (both_held r) b
        ∙ ap (λ (x : Bool). x && member (holders_of r.looked) b) (in_common r.held r.second_held b)
        ∙ turn (member r.held b) (member r.second_held b) (member (holders_of r.looked) b)
        ∙ ap (λ (x : Bool). x && (member r.second_held b && member (holders_of r.looked) b)) (held.of_name b)
        ∙ ap (λ (x : Bool). held_in (area_for change) w b && (x && member (holders_of r.looked) b)) (held.of_child b)
        ∙ ap (λ (x : Looked). held_in (area_for change) w b && (held_in (Name child None) w b && member (holders_of x) b)) k.looks
        ∙ sym (by_lines b)

    pub takers_in : IsIn (takers_of r) (takers_by change child w)
    takers_in b m = sym (same_takers b) ∙ m

    pub in_takers : IsIn (takers_by change child w) (takers_of r)
    in_takers b m = same_takers b ∙ m

    -- so who takes part suffices by the one where it does by the other
    pub takers_suffice : (x : Bool) → has_takers r ≡ x → suffices p.shape Names (looked_by g w) (takers_by change child w) ≡ x
    takers_suffice x e = suffices_same p.shape Names (looked_by g w) (takers_by change child w) (takers_of r) in_takers takers_in ∙ sym (enough_is (takers_of r)) ∙ e
