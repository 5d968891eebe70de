-- A volume whose healers go their own rounds: what it keeps is what the plan says.
use Rattle.std.proofs.Common.{◌≡◌, ◌∙◌, ℕ, Bool, true, false, [], refl, ap, subst}
use Rattle.afr_lines.specs.Work.{is_killed, work}
use Rattle.afr_model.specs.Actors.{IsActor, is_done}
use Rattle.afr_volume.specs.Going.{IsHappening, Later, Still}
use Rattle.afr_volume.specs.Right.{IsRight, IsRightFor}
use Rattle.afr_volume.specs.State.{State, opened, opened_for}
use Rattle.afr_volume.specs.Tasks.{is_done_in}
use Rattle.afr_volume.proofs.TaskDone.{plain_done}

module _ (s : State) (plain : s.crawl ≡ false) where
  pub plain_right : IsRightFor s.crawl s.plan s.log → IsRight s.plan s.log
  plain_right k = subst (λ (crawl : Bool). IsRightFor crawl s.plan s.log) plain k

  pub plain_settled : ((a : ℕ) → IsActor s.plan a → is_done_in a s ≡ true → is_killed a s.log ≡ false → work a s.log ≡ []) → (a : ℕ) → IsActor s.plan a → is_done s.plan a s.log ≡ true → is_killed a s.log ≡ false → work a s.log ≡ []
  plain_settled k a actor done alive = k a actor (plain_done a s plain ∙ done) alive

  pub plain_resting : s ≡ opened_for s.crawl s.plan → s ≡ opened s.plan
  plain_resting k = subst (λ (crawl : Bool). s ≡ opened_for crawl s.plan) plain k

-- events leave it so
pub happening_goes : (old new : State) → IsHappening old new → new.crawl ≡ old.crawl
happening_goes old new Still = refl
happening_goes old new (Later mid _ h comes) = ap (λ (s : State). s.crawl) comes.added ∙ happening_goes old mid h
