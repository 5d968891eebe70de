-- A healer's whole turn leaves each other worker its task, and its own goes on or is over.
use Rattle.std.proofs.Common.{◌≡◌, ◌∙◌, ℕ, suc, ◌+◌, ◌-◌, ◌<◌, ◌≤◌, Bool, true, false, List, [], ◌∷◌, Option, None, Some, if◌then◌else◌, refl, sym, ap, arith, subst, length, option_map, slice_get}
use Rattle.afr_base.specs.declared.ids.ActorId.{ActorId}
use Rattle.afr_base.specs.declared.ids.Gfid.{Gfid}
use Rattle.afr_base.specs.declared.ids.What.{What}
use Rattle.afr_heal_round.specs.Rounding.{IsAnswered, Rounding}
use Rattle.afr_healer.specs.Keeping.{IsHealer}
use Rattle.afr_healer.specs.Laws.{RoundKeeps}
use Rattle.afr_healer.specs.declared.healer.Healer.{Healer}
use Rattle.afr_lines.specs.Work.{is_end, work}
use Rattle.afr_lines.specs.declared.line.Line.{Line}
use Rattle.afr_plan.specs.declared.plan.Plan.{Plan}
use Rattle.afr_server.specs.Serving.{Serving}
use Rattle.afr_volume.specs.Keeping.{AreCrawling, IsAtIts, IsAtTask}
use Rattle.afr_volume.specs.Tasks.{item_in, of_workers, task_at, task_of, tasks_of}
use Rattle.afr_volume.specs.Turning.{IsTaskLine, ReadiedHealerAt, StepsHealerAt}
use Rattle.afr_volume.proofs.PaceAll.{set_each}
use Rattle.afr_volume.proofs.TaskLemmas.{beside, get_set_here, get_set_other, readied_crawls, readied_tasks, worker_get}
use Rattle.afr_volume.proofs.TaskSteps.{GoesOn, IsOver, StepsTask, steps_task, tried}

-- what the turn leaves of the tasks
pub record KeepsTasks (crawl : Bool) (p : Plan) (a : ℕ) (log : List Line) (healers now : List Healer) (line : Line) : Type 0 where
  pub crawling : crawl ≡ true → AreCrawling p (line ∷ log) now
  pub others : (i : ℕ) → (18 + i ≡ a → ⊥) → slice_get (tasks_of crawl now) i ≡ slice_get (tasks_of crawl healers) i
  pub own : (item : Gfid × What) → 18 ≤ a → slice_get (tasks_of crawl healers) (a - 18) ≡ Some (Some item) → IsTaskLine a item line log (tasks_of crawl now)

-- a worker's task, as the volume shows it, is the item of its list
shown : (round : Option Rounding) (m : Rounding) (item other : Gfid × What) → round ≡ Some m → m.round.list ≡ Some (item ∷ []) → task_at round ≡ Some other → item ≡ other
shown round m item other is list task =
    let same : Some item ≡ Some other = sym (ap task_at is ∙ ap item_in list) ∙ task in
    cc same

module _ (p : Plan) (a : ActorId) (log : List Line) (servers new : List Serving) (healers readied now : List Healer) (line : Line) (low : 17 ≤ a.0) (high : a.0 < 20) (few : length p.clients ≤ 16) (was : AreCrawling p log healers) (r : ReadiedHealerAt true p a.0 healers readied)
    (s : StepsHealerAt IsAnswered a (length log) readied now servers new line) (acting : IsHealer true p log a.0 servers s.before) (k : RoundKeeps true p a log line s.after servers new) (apart : (c : ℕ) → (a.0 ≡ c → ⊥) → work c (line ∷ log) ≡ work c log) where
  again : 17 + (a.0 - 17) ≡ a.0
  again = omega (arith, low)

  ready : AreCrawling p log readied
  ready = readied_crawls true p a.0 log healers readied low high r (λ e. was) refl

  at_task : 18 ≤ a.0 → IsAtTask a.0 log s.steps.round
  at_task worker = subst (IsAtIts a.0 log) s.steps.present (subst (λ (c : ℕ). IsAtIts c log s.before.round) again (ready.tasks (a.0 - 17) s.before s.was (omega (arith, worker))))

  steps : (worker : 18 ≤ a.0) → StepsTask a.0 (at_task worker).item line log s.after
  steps worker = steps_task p a log servers new s.before s.after line worker few acting k s.steps (at_task worker)

  -- ---- the workers are at their tasks
  after_own : (worker : 18 ≤ a.0) → StepsTask a.0 (at_task worker).item line log s.after → IsAtIts a.0 (line ∷ log) s.after.round
  after_own worker (GoesOn e m is list of) = subst (IsAtIts a.0 (line ∷ log)) (sym is) (record { item = (at_task worker).item; list = list; of = of })
  after_own worker (IsOver e none) = subst (IsAtIts a.0 (line ∷ log)) (sym none) tt

  crawling : AreCrawling p (line ∷ log) now
  crawling = record {
    can = was.can;
    tasks = λ i z is. set_each (λ (i : ℕ) (z : Healer). 1 ≤ i → IsAtIts (17 + i) (line ∷ log) z.round) readied (a.0 - 17) s.after others own i z (rw s.set_is at is);
  }
    where
      others : (i : ℕ) (z : Healer) → (a.0 - 17 ≡ i → ⊥) → slice_get readied i ≡ Some z → 1 ≤ i → IsAtIts (17 + i) (line ∷ log) z.round
      others i z other h worker = beside (17 + i) line log z.round (apart (17 + i) (λ e. other (omega (arith, e)))) (ready.tasks i z h worker)

      own : 1 ≤ a.0 - 17 → IsAtIts (17 + (a.0 - 17)) (line ∷ log) s.after.round
      own one = let worker : 18 ≤ a.0 = omega (arith, one) in subst (λ (c : ℕ). IsAtIts c (line ∷ log) s.after.round) (sym again) (after_own worker (steps worker))

  -- ---- the others have the tasks that they had
  others_kept : (i : ℕ) → (18 + i ≡ a.0 → ⊥) → slice_get (of_workers now) i ≡ slice_get (of_workers healers) i
  others_kept i other =
      let differ : (a.0 - 17 ≡ suc i → ⊥) = λ e. other (omega (arith, e, low)) in
      worker_get now i
      ∙ ap (option_map task_of)
      (ap (λ (l : List Healer). slice_get l (suc i)) s.set_is ∙ get_set_other readied (a.0 - 17) (suc i) s.after differ ∙ ap (λ (l : List Healer). slice_get l (suc i)) r.set_is ∙ get_set_other healers (a.0 - 17) (suc i) r.after differ)
      ∙ sym (worker_get healers i)

  -- ---- its own goes on, or is over
  module _ (item : Gfid × What) (worker : 18 ≤ a.0) (is : slice_get (of_workers healers) (a.0 - 18) ≡ Some (Some item)) where
    place : a.0 - 17 ≡ suc (a.0 - 18)
    place = omega (arith, worker)

    before : task_of s.before ≡ Some item
    before =
        let there : slice_get readied (suc (a.0 - 18)) ≡ Some s.before = subst (λ (i : ℕ). slice_get readied i ≡ Some s.before) place s.was in
        let same : Some (task_of s.before) ≡ Some (Some item) = sym (ap (option_map task_of) there) ∙ sym (worker_get readied (a.0 - 18)) ∙ ap (λ (l : List (Option (Gfid × What))). slice_get l (a.0 - 18)) (readied_tasks true p a.0 healers readied (λ e. was.can) low high r) ∙ is in
        cc same

    same_item : (at_task worker).item ≡ item
    same_item = shown s.before.round s.steps.round (at_task worker).item item s.steps.present (at_task worker).list before

    after_task : StepsTask a.0 (at_task worker).item line log s.after → task_of s.after ≡ (if is_end line then None else Some item)
    after_task (GoesOn e m now_is list of) = rw e (ap task_at now_is ∙ ap item_in list ∙ ap Some same_item)
    after_task (IsOver e none) = rw e (ap task_at none)

    own_kept : IsTaskLine a.0 item line log (of_workers now)
    own_kept = record {
      present =
          let there : slice_get now (suc (a.0 - 18)) ≡ Some s.after = subst (λ (i : ℕ). slice_get now i ≡ Some s.after) place (ap (λ (l : List Healer). slice_get l (a.0 - 17)) s.set_is ∙ get_set_here readied (a.0 - 17) s.before s.after s.was) in
          worker_get now (a.0 - 18) ∙ ap (option_map task_of) there ∙ ap Some (after_task (steps worker));
      tried = λ e. tried p a log servers new s.before s.after line worker few acting k s.steps (at_task worker) e ∙ ap Some same_item;
    }

  kept : KeepsTasks true p a.0 log healers now line
  kept = record { crawling = λ e. crawling; others = others_kept; own = own_kept }

-- whether the healers crawl or not
pub keeps_tasks : (crawl : Bool) (p : Plan) (a : ActorId) (log : List Line) (servers new : List Serving) (healers readied now : List Healer) (line : Line) → 17 ≤ a.0 → a.0 < 20 → length p.clients ≤ 16 → (crawl ≡ true → AreCrawling p log healers) → ReadiedHealerAt crawl p a.0 healers readied
    → (s : StepsHealerAt IsAnswered a (length log) readied now servers new line) → IsHealer crawl p log a.0 servers s.before → RoundKeeps crawl p a log line s.after servers new → ((c : ℕ) → (a.0 ≡ c → ⊥) → work c (line ∷ log) ≡ work c log) → KeepsTasks crawl p a.0 log healers now line
keeps_tasks true p a log servers new healers readied now line low high few was r s acting k apart = kept p a log servers new healers readied now line low high few (was refl) r s acting k apart
keeps_tasks false p a log servers new healers readied now line low high few was r s acting k apart = record { crawling = λ e. absurd (cc e); others = λ i other. refl; own = λ item worker is. absurd (cc is) }
