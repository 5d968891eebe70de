-- A heal keeps standing, whatever its bricks answer.
use Rattle.std.proofs.Common.{ℕ, ◌≤◌, Bool, subst, sym}
use Rattle.afr_base.specs.declared.ids.Gfid.{Gfid}
use Rattle.afr_base.specs.declared.ids.Kind.{Kind}
use Rattle.afr_heal.proofs.KeptBroken.{KeepsAt, ending}
use Rattle.afr_heal.proofs.KeptHealLocks.{heal_kept, starting}
use Rattle.afr_heal.proofs.KeptLooks.{look_kept}
use Rattle.afr_heal.proofs.KeptPart.{part_kept}
use Rattle.afr_heal.proofs.KeptPartLocks.{part_lock_kept}
use Rattle.afr_heal.proofs.KeptSteps.{mends_kept, pres_kept, reads_kept, settles_kept}
use Rattle.afr_heal.proofs.KeptUnlocks.{heals_kept, unlocks_kept}
use Rattle.afr_heal.proofs.KeptViews.{views_kept}
use Rattle.afr_heal.proofs.KeptWorkLocks.{work_kept}
use Rattle.afr_heal.proofs.StagesForms.{going_at, going_form, heal_form, looks_form, part_form, views_form, work_form}
use Rattle.afr_heal.proofs.StagesWalk.{after_elim}
use Rattle.afr_heal.specs.Laws.{HealStands, Keeps}
use Rattle.afr_heal.specs.Standing.{AfterLooks, AtHeal, AtLooks, AtPart, AtViews, AtWork, Ending, First, Going, Healing, Looking, Parting, Viewing, Working}
use Rattle.afr_lines.specs.declared.request.Area.{Area}
use Rattle.afr_model_moves.specs.Register.{Exact}

module _ (n : ℕ) (keeps : ℕ → Kind → Bool) (pick : (ℕ → Bool) → ℕ) where
  going_kept : (few : n ≤ 5) (q : Exact) (s : ℕ) (g : Gfid) (kind : Kind) (area : Area) (k : AfterLooks n keeps (going_at q g kind area) s g kind) → KeepsAt n keeps pick (going_at q g kind area) s g kind
  going_kept few q s g kind area k = after_elim n keeps (going_at q g kind area) s g kind k (Keeps n keeps pick (going_at q g kind area) s g kind)
      (reads_kept n keeps few q s g kind area k pick) (pres_kept n keeps few q s g kind area k pick) (mends_kept n keeps few q s g kind area k pick) (settles_kept n keeps few q s g kind area k pick)
      (unlocks_kept n keeps few q s g kind area k pick) (part_kept n keeps few q s g kind area k pick) (heals_kept n keeps few q s g kind area k pick) (λ h u. tt)

-- whatever its bricks answer, a heal keeps standing: in each stage its register is put into the stage's form
pub heal_stands : HealStands
heal_stands n keeps pick r s g kind some few picks (First k) = starting n keeps pick some r s g kind k
heal_stands n keeps pick r s g kind some few picks (Healing k) =
    let e = heal_form n keeps r s g kind k in
    subst (λ (r : Exact). KeepsAt n keeps pick r s g kind) (sym e) (heal_kept n keeps pick some r s g kind (subst (λ (r : Exact). AtHeal n keeps r g) e k))
heal_stands n keeps pick r s g kind some few picks (Working k) =
    let e = work_form n keeps r s g kind k in
    subst (λ (r : Exact). KeepsAt n keeps pick r s g kind) (sym e) (work_kept n keeps pick r s g kind (subst (λ (r : Exact). AtWork n keeps r g kind) e k))
heal_stands n keeps pick r s g kind some few picks (Looking k) =
    let e = looks_form n keeps r s g kind k in
    subst (λ (r : Exact). KeepsAt n keeps pick r s g kind) (sym e) (look_kept n keeps pick picks r s g kind (subst (λ (r : Exact). AtLooks n keeps r g kind) e k))
heal_stands n keeps pick r s g kind some few picks (Parting k) =
    let e = part_form n keeps r s g kind k in
    subst (λ (r : Exact). KeepsAt n keeps pick r s g kind) (sym e) (part_lock_kept n keeps pick r r.part k.part s g kind k.area (subst (λ (r : Exact). AtPart n keeps r s g kind) e k))
heal_stands n keeps pick r s g kind some few picks (Viewing k) =
    let e = views_form n keeps r s g kind k in
    subst (λ (r : Exact). KeepsAt n keeps pick r s g kind) (sym e) (views_kept n keeps pick r s g kind k.area r.part k.part (subst (λ (r : Exact). AtViews n keeps r s g kind) e k))
heal_stands n keeps pick r s g kind some few picks (Going k) =
    let e = going_form n keeps r s g kind k in
    subst (λ (r : Exact). KeepsAt n keeps pick r s g kind) (sym e) (going_kept n keeps pick few r s g kind k.area (subst (λ (r : Exact). AfterLooks n keeps r s g kind) e k))
heal_stands n keeps pick r s g kind some few picks (Ending k) = ending n keeps pick r s g kind k
