-- What the present work of a healer is for: how a line keeps to it, and that it stays so after a line.
use Rattle.std.proofs.Common.{◌≡◌, ◌∙◌, ℕ, ◌≤◌, Bool, false, List, [], ◌∷◌, Option, None, Some, refl, sym, ap, subst, inr, slice_get}
use Rattle.afr_base.specs.declared.ids.BrickId.{BrickId}
use Rattle.afr_base.specs.declared.ids.Gfid.{Gfid}
use Rattle.afr_base.specs.declared.ids.What.{What}
use Rattle.afr_heal_round.specs.declared.stage.RoundStage.{RoundStage}
use Rattle.afr_heal_round.specs.declared.stage.RoundStage.TheVariants.{Asking, Healing, Over}
use Rattle.afr_lines.specs.Work.{Work, ended, work}
use Rattle.afr_lines.specs.declared.line.Line.{Line}
use Rattle.afr_lines.specs.declared.line.Line.TheVariants.{Ask, Begin, End, Event, HealBegin, HealEnd}
use Rattle.afr_lines.specs.declared.request.Request.TheVariants as request
use Rattle.afr_model.specs.Actors.{rounds_of}
use Rattle.afr_model.specs.Crawl.{AreOfItem, IsGiven, KeepsToItem}
use Rattle.afr_model.specs.Following.{KeepsToTask, ToCrawl, ToItem, ToRound}
use Rattle.afr_model.specs.HealReplies.{refuses_index}
use Rattle.afr_model.specs.Rounds.{KeepsToHeals, KeepsToIndexed, due_in, heals_ended, heals_of, listed_by}
use Rattle.afr_model.specs.Safe.{log_before}
use Rattle.afr_model.specs.Showing.{has}
use Rattle.afr_plan.specs.declared.plan.Plan.{Plan}
use Rattle.afr_healer.specs.Keeping.{AsksFor, Crawls, Duty, HasBegun, Task, IsListed, IsOnDuty, KeepsList, Rounds, list_of}

-- where the healers don't crawl it is for the heals of its round
pub plain_duty : (duty : Duty) (p : Plan) (a : ℕ) (log : List Line) (b : BrickId) → IsOnDuty duty false p a log b → duty ≡ Rounds
plain_duty Rounds p a log b on = refl
plain_duty Crawls p a log b on = absurd (cc on.0)
plain_duty (Task item) p a log b on = absurd (cc on.0)

-- ---- the list
list_kept : (duty : Duty) (p : Plan) (v w : Work) → listed_by p v ≡ listed_by p w → list_of duty p v ≡ list_of duty p w
list_kept Rounds p v w e = e
list_kept Crawls p v w e = refl
list_kept (Task item) p v w e = refl

-- it stays where a line gives none, and with it the heal that is due
pub listed_kept : (duty : Duty) (p : Plan) (v w : Work) (list : Option (List (Gfid × What))) → listed_by p v ≡ listed_by p w → IsListed duty p w list → IsListed duty p v list
listed_kept Rounds p v w None e k = e ∙ k
listed_kept Rounds p v w (Some list) e k = e ∙ k
listed_kept Crawls p v w list e k = k
listed_kept (Task item) p v w list e k = k

pub due_kept : (duty : Duty) (p : Plan) (v w : Work) → listed_by p v ≡ listed_by p w → heals_ended v ≡ heals_ended w → due_in (list_of duty p v) v ≡ due_in (list_of duty p w) w
due_kept duty p v w listed healed =
    ap (λ (list : List (Gfid × What)). due_in list v) (list_kept duty p v w listed) ∙ ap (slice_get (heals_of (list_of duty p w))) healed

-- a work with a line has begun
pub begun_more : (duty : Duty) (stage : RoundStage) (x : Line × List Line) (w : Work) → HasBegun duty stage (x ∷ w)
begun_more Rounds (Asking heals) x w = tt
begun_more Rounds (Healing h) x w = tt
begun_more Rounds (Over refused) x w = tt
begun_more Crawls (Asking heals) x w = tt
begun_more Crawls (Healing h) x w = tt
begun_more Crawls (Over refused) x w = tt
begun_more (Task item) (Asking heals) x w = tt
begun_more (Task item) (Healing h) x w = tt
begun_more (Task item) (Over refused) x w = tt

-- a round that is over has begun
pub begun_over : (duty : Duty) (refused : Bool) (w : Work) → HasBegun duty (Over refused) w → (x : Line × List Line) × (v : Work) × (w ≡ x ∷ v)
begun_over Rounds refused [] k = absurd k
begun_over Crawls refused [] k = absurd k
begun_over (Task item) refused [] k = absurd k
begun_over duty refused (x ∷ w) k = (x, w, refl)

-- a round that heals has a list to heal
pub heals_list : (duty : Duty) (p : Plan) (w : Work) (list : Option (List (Gfid × What))) → IsListed duty p w list → KeepsList duty p w list
heals_list Rounds p w list k = tt
heals_list Crawls p w list k = absurd k
heals_list (Task item) p w list k = tt

-- ---- a task asks for no index
admits : (item : Gfid × What) (line : Line) (w : Work) → KeepsToItem item line w → refuses_index line ≡ false
admits item (Ask a b request.Index told took) w k = absurd (let e = k.about in cc e)
admits item (Ask a b asked told took) w k = refl
admits item (Begin a change) w k = refl
admits item (HealBegin a g kind) w k = refl
admits item (HealEnd a g kind said) w k = refl
admits item (End a said) w k = refl
admits item (Event event) w k = refl

pub task_admits : (item : Gfid × What) (w : Work) → AreOfItem item w → has refuses_index w ≡ false
task_admits item [] of = refl
task_admits item (x ∷ w) of = rw (admits item x.0 w of.0, task_admits item w of.1) refl

-- ---- a line of the healer
module _ (crawl : Bool) (p : Plan) (a : ℕ) (log : List Line) (high : 17 ≤ a) (b : BrickId) where
  abbrev w : Work
  w = work a log

  -- it keeps to the task, if it keeps to the heals of the list
  pub keeps_duty : (duty : Duty) (line : Line) → IsOnDuty duty crawl p a log b → ((list : List (Gfid × What)) → KeepsToHeals list line w → KeepsToIndexed b list line w)
      → ((item : Gfid × What) → AreOfItem item w → KeepsToHeals (item ∷ []) line w → KeepsToItem item line w) → KeepsToHeals (list_of duty p w) line w → KeepsToTask crawl p a line log
  keeps_duty Rounds line on indexed of k = ToRound on.0 high b on.1 (indexed (listed_by p w) k)
  keeps_duty Crawls line on indexed of k = ToCrawl on.0 on.1 b on.2 (indexed [] k)
  keeps_duty (Task item) line on indexed of k = ToItem on.0 on.1 item on.2 (of item on.3 k, on.3)

  -- and the work goes on, if the line doesn't end it
  pub duty_more : (duty : Duty) (line : Line) → work a (line ∷ log) ≡ (line, log) ∷ w → ended a (line ∷ log) ≡ ended a log → IsOnDuty duty crawl p a log b
      → ((item : Gfid × What) → KeepsToHeals (item ∷ []) line w → KeepsToItem item line w) → KeepsToHeals (list_of duty p w) line w → IsOnDuty duty crawl p a (line ∷ log) b
  duty_more Rounds line more same on of k = (on.0, ap (slice_get (rounds_of p a)) same ∙ on.1)
  duty_more Crawls line more same on of k = (on.0, on.1, ap (slice_get (rounds_of p a)) same ∙ on.2)
  duty_more (Task item) line more same on of k = (on.0, on.1, subst (λ (v : Work). IsGiven p item (log_before v (line ∷ log))) (sym more) on.2, subst (AreOfItem item) (sym more) (of item k, on.3))

  -- the request for an index, which no task has
  pub index_keeps_duty : (duty : Duty) (line : Line) (heals : Bool) → AsksFor duty heals → IsOnDuty duty crawl p a log b → ((list : List (Gfid × What)) → KeepsToIndexed b list line w) → KeepsToTask crawl p a line log
  index_keeps_duty Rounds line heals is on k = ToRound on.0 high b on.1 (k (listed_by p w))
  index_keeps_duty Crawls line heals is on k = ToCrawl on.0 on.1 b on.2 (k [])
  index_keeps_duty (Task item) line heals is on k = absurd is

  pub index_duty : (duty : Duty) (line : Line) (heals : Bool) → AsksFor duty heals → ended a (line ∷ log) ≡ ended a log → IsOnDuty duty crawl p a log b → IsOnDuty duty crawl p a (line ∷ log) b
  index_duty Rounds line heals is same on = (on.0, ap (slice_get (rounds_of p a)) same ∙ on.1)
  index_duty Crawls line heals is same on = (on.0, on.1, ap (slice_get (rounds_of p a)) same ∙ on.2)
  index_duty (Task item) line heals is same on = absurd is

-- ---- a line beside it
given_on : (p : Plan) (item : Gfid × What) (line : Line) (log : List Line) (w : Work) → IsGiven p item (log_before w log) → IsGiven p item (log_before w (line ∷ log))
given_on p item line log [] k = inr k
given_on p item line log (x ∷ w) k = k

pub duty_beside : (duty : Duty) (crawl : Bool) (p : Plan) (c : ℕ) (line : Line) (log : List Line) (b : BrickId) → work c (line ∷ log) ≡ work c log → ended c (line ∷ log) ≡ ended c log → IsOnDuty duty crawl p c log b
    → IsOnDuty duty crawl p c (line ∷ log) b
duty_beside Rounds crawl p c line log b same_work same_ended on = (on.0, ap (slice_get (rounds_of p c)) same_ended ∙ on.1)
duty_beside Crawls crawl p c line log b same_work same_ended on = (on.0, on.1, ap (slice_get (rounds_of p c)) same_ended ∙ on.2)
duty_beside (Task item) crawl p c line log b same_work same_ended on = (
  on.0,
  on.1,
  subst (λ (v : Work). IsGiven p item (log_before v (line ∷ log))) (sym same_work) (given_on p item line log (work c log) on.2),
  subst (AreOfItem item) (sym same_work) on.3,
)
