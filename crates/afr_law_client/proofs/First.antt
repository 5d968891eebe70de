-- The walk's lines show a transaction that has asked nothing yet.
use Rattle.std.proofs.Common.{◌≡◌, ℕ, ◌||◌, Bool, false, List, [], ◌∷◌, refl, sym, ◌∙◌, subst}
use Rattle.afr_lines.specs.Areas.{area_for}
use Rattle.afr_lines.specs.Work.{Work}
use Rattle.afr_lines.specs.declared.line.Line.{Line}
use Rattle.afr_lines.specs.declared.line.Line.TheVariants.{Ask}
use Rattle.afr_lines.specs.declared.request.Area.{Area}
use Rattle.afr_lines.specs.declared.request.Request.TheVariants as request
use Rattle.afr_lines.specs.declared.lock.Domain.TheVariants.{Work as WorkDomain}
use Rattle.afr_client_transaction.specs.declared.stage.LocksAndLooks.{LocksAndLooks}
use Rattle.afr_client_transaction.specs.declared.stage.Stage.{Stage}
use Rattle.afr_client_transaction.proofs.Parts.{no_or}
use Rattle.afr_model.specs.Showing.{among, has}
use Rattle.afr_model.specs.Standing.{locks_any, locks_area, asking, getting}
use Rattle.afr_law_client.specs.Laws.{TellsFirst}
use Rattle.afr_law_client.specs.Tells.{During}
use Rattle.afr_law_client.proofs.Small.{no_number}

-- where no line asks for a lock, nobody was asked, nobody granted one, and no area was locked
pub none_asked : (area : Area) (w : Work) → has locks_any w ≡ false → among (asking area) w ≡ []
none_asked area [] none = refl
none_asked area (x ∷ w) none = by x.0 (among (asking area) w) (no_or _ (has locks_any w) none).0 ∙ none_asked area w (no_or _ (has locks_any w) none).1
  where
    by : (line : Line) (s : List ℕ) → locks_any line ≡ false → asking area line s ≡ s
    by (Ask a b (request.Lock WorkDomain other) told took) s free = absurd (cc free)
    by line s free = refl

none_granted : (area : Area) (w : Work) → has locks_any w ≡ false → among (getting area) w ≡ []
none_granted area [] none = refl
none_granted area (x ∷ w) none = by x.0 (among (getting area) w) (no_or _ (has locks_any w) none).0 ∙ none_granted area w (no_or _ (has locks_any w) none).1
  where
    by : (line : Line) (s : List ℕ) → locks_any line ≡ false → getting area line s ≡ s
    by (Ask a b (request.Lock WorkDomain other) told took) s free = absurd (cc free)
    by line s free = refl

none_locked : (area : Area) (w : Work) → has locks_any w ≡ false → has (locks_area area) w ≡ false
none_locked area [] none = refl
none_locked area (x ∷ w) none = by x.0 (has (locks_area area) w) (no_or _ (has locks_any w) none).0 ∙ none_locked area w (no_or _ (has locks_any w) none).1
  where
    by : (line : Line) (before : Bool) → locks_any line ≡ false → (locks_area area line || before) ≡ before
    by (Ask a b (request.Lock WorkDomain other) told took) before free = absurd (cc free)
    by line before free = refl

pub tells_first : TellsFirst
tells_first p w m k = record {
  shape_is = k.shape_is;
  sets = record {
    asked = of_nobody (λ (asked : LocksAndLooks). asked.lock_asked ≡ []) refl ∙ sym (none_asked (area_for m.change) w k.unlocked);
    granted = of_nobody (λ (asked : LocksAndLooks). asked.locked_on ≡ []) refl ∙ sym (none_granted (area_for m.change) w k.unlocked);
    prepared = k.no_pre ∙ sym k.idle.no_pre_did;
    applied = k.no_apply ∙ sym k.idle.no_apply_did;
    posted = k.no_post ∙ sym k.idle.no_post_did;
    number = k.first ∙ sym (no_number w k.idle.unbegun);
  };
  alone = record { unlocked = λ other e. none_locked other w k.unlocked; looked = k.looked };
  during = subst (λ (stage : Stage). During stage p.shape m w) (sym k.stage_is) (record {
    idle = k.idle;
    shows = k.unseen;
    at = of_nobody (λ (asked : LocksAndLooks). asked.looked_at ≡ []) refl;
    unseen = λ any. absurd (cc (any, k.unlocked));
  });
}
  where
    of_nobody : (P : LocksAndLooks → Type 0) → P (record { lock_asked = []; locked_on = []; looked_at = [] }) → P m.asked
    of_nobody P h = subst P (sym k.nobody) h
