-- The healers begin to crawl, before the first line; and a worker is given a task.
use Rattle.std.proofs.Common.{◌≡◌, ◌∙◌, ℕ, zero, suc, ◌+◌, ◌-◌, ◌<◌, ◌≤◌, Bool, true, false, List, [], ◌∷◌, Option, None, Some, refl, sym, ap, arith, subst, length, length-set, map, option_map, slice_get, slice_set, nat_lt}
use Rattle.std.proofs.lemmas.Bool.Decides.{nat_tests}
use Rattle.std.proofs.lemmas.Option.{slice_get_within}
use Rattle.afr_base.specs.declared.ids.BrickId.{BrickId}
use Rattle.afr_base.specs.declared.ids.Gfid.{Gfid}
use Rattle.afr_base.specs.declared.ids.What.{What}
use Rattle.afr_heal_round.specs.List.Round.{RoundProgress}
use Rattle.afr_heal_round.specs.Rounding.{Rounding, task_from}
use Rattle.afr_heal_round.specs.declared.stage.RoundStage.{RoundStage}
use Rattle.afr_heal_round.specs.declared.stage.RoundStage.TheVariants.{Asking, Healing, Over}
use Rattle.afr_healer.specs.Keeping.{CarriesIts, Crawls, Duty, HasBegun, IsBetweenRounds, IsHealer, IsOnDuty, Rounds, StageStands, Task}
use Rattle.afr_healer.specs.declared.healer.Healer.{Healer}
use Rattle.afr_law_cost.specs.Healer.Paced.{IsPacedRound}
use Rattle.afr_law_picks.specs.Sources.Sources.{source_at, sources_of}
use Rattle.afr_law_picks.proofs.Sources.Turns.{set_same}
use Rattle.afr_lines.specs.Work.{ended}
use Rattle.afr_lines.specs.declared.line.Line.{Line}
use Rattle.afr_model.specs.Crawl.{AreOfItem, CanCrawl, IsGiven, IsWorker}
use Rattle.afr_plan.specs.declared.plan.Plan.{Plan}
use Rattle.afr_server.specs.Serving.{Serving}
use Rattle.afr_servers.specs.declared.epochs.Epochs.{Epochs}
use Rattle.afr_volume.specs.Keeping.{AreCrawling, IsAtIts, IsVolume, IsWhole}
use Rattle.afr_volume.specs.Laws.{RoundLaws}
use Rattle.afr_volume.specs.State.{State, no_tasks}
use Rattle.afr_volume.specs.Tasks.{item_in, of_workers, task_at, task_of, tasks_of}
use Rattle.afr_volume.specs.Turning.{GivesTask, RestsFirst}
use Rattle.afr_volume.specs.declared.actor.Actor.{Actor}
use Rattle.afr_volume.proofs.PaceAll.{set_each}
use Rattle.afr_volume.proofs.SourceLemmas.{all_rest_first}
use Rattle.afr_volume.proofs.TaskLemmas.{no_rounds, worker_get}

-- ---- before the first line
-- a healer that is at nothing stands for no line, whether it crawls or not
rests_by : (duty : Duty) (crawl : Bool) (p : Plan) (a : ℕ) (met : Bool) (epochs : Epochs) (servers : List Serving) (b : BrickId) (r : RoundProgress) → IsOnDuty duty crawl p a [] b → (stage : RoundStage) → HasBegun duty stage [] → StageStands duty p a [] met epochs servers r stage → IsBetweenRounds a [] met
rests_by duty crawl p a met epochs servers b r on (Asking heals) begun stands = stands.0
rests_by Rounds crawl p a met epochs servers b r on (Healing h) begun stands = absurd begun
rests_by Crawls crawl p a met epochs servers b r on (Healing h) begun stands = absurd begun
rests_by (Task item) crawl p a met epochs servers b r on (Healing h) begun stands = absurd on.2
rests_by Rounds crawl p a met epochs servers b r on (Over refused) begun stands = absurd begun
rests_by Crawls crawl p a met epochs servers b r on (Over refused) begun stands = absurd begun
rests_by (Task item) crawl p a met epochs servers b r on (Over refused) begun stands = absurd begun

rests_first : {crawl : Bool} (p : Plan) (a : ℕ) (servers : List Serving) (x : Healer) → IsHealer crawl p [] a servers x → IsHealer true p [] a servers (record x { round = None })
rests_first {crawl = crawl} p a servers x k = record { ended_is = k.ended_is; killed_is = k.killed_is; carries = by x.round k.carries }
  where
    by : (round : Option Rounding) → CarriesIts crawl p a [] x.visit.met x.visit.epochs servers round → IsBetweenRounds a [] x.visit.met
    by None carries = carries
    by (Some m) carries = rests_by carries.duty crawl p a x.visit.met x.visit.epochs servers m.round.brick m.round carries.present m.stage carries.begun carries.stage

-- a worker is at nothing
worker_rests : {crawl : Bool} (p : Plan) (a : ℕ) (servers : List Serving) (x : Healer) → CanCrawl p → IsWorker a → IsHealer crawl p [] a servers x → x.round ≡ None
worker_rests {crawl = crawl} p a servers x can worker k = by x.round k.carries
  where
    by_duty : (duty : Duty) (b : BrickId) → IsOnDuty duty crawl p a [] b → ⊥
    by_duty Rounds b on = no_rounds p a 0 b can worker on.1
    by_duty Crawls b on = (let who = on.1 in let low = worker.0 in absurd (omega (arith, who, low)))
    by_duty (Task item) b on = on.2

    by : (round : Option Rounding) → CarriesIts crawl p a [] x.visit.met x.visit.epochs servers round → round ≡ None
    by None carries = refl
    by (Some m) carries = absurd (by_duty carries.duty m.round.brick carries.present)

-- so no worker has a task
two_workers : (healers : List Healer) → length healers ≡ 3 → ((i : ℕ) (x : Healer) → slice_get healers i ≡ Some x → 1 ≤ i → x.round ≡ None) → of_workers healers ≡ None ∷ None ∷ []
two_workers [] many k = absurd (cc many)
two_workers (x ∷ []) many k = absurd (omega (arith, many))
two_workers (x ∷ y ∷ []) many k = absurd (omega (arith, many))
two_workers (x ∷ y ∷ z ∷ []) many k =
    let second : task_of y ≡ None = ap task_at (k 1 y refl (omega arith)) in
    let third : task_of z ≡ None = ap task_at (k 2 z refl (omega arith)) in
    λ i. second i ∷ third i ∷ []
two_workers (x ∷ y ∷ z ∷ w ∷ l) many k = absurd (omega (arith, many))

workers_rest : {crawl : Bool} (p : Plan) (servers : List Serving) (healers : List Healer) → CanCrawl p → length healers ≡ length p.healers → ((i : ℕ) (x : Healer) → slice_get healers i ≡ Some x → IsHealer crawl p [] (17 + i) servers x) → (i : ℕ) (x : Healer) → slice_get healers i ≡ Some x → 1 ≤ i → x.round ≡ None
workers_rest p servers healers can same each i x is one =
    let few = can.healers in
    worker_rests p (17 + i) servers x can (omega (arith, one), omega (arith, slice_get_within healers i x is, same, few)) (each i x is)

pub first_tasks : (crawl : Bool) (p : Plan) (log : List Line) (servers : List Serving) (healers : List Healer) → length healers ≡ length p.healers → ((i : ℕ) (x : Healer) → slice_get healers i ≡ Some x → IsHealer crawl p log (17 + i) servers x) → (crawl ≡ true → CanCrawl p) → log ≡ []
    → tasks_of crawl healers ≡ no_tasks crawl
first_tasks false p log servers healers same each can none = refl
first_tasks true p log servers healers same each can none = two_workers healers (same ∙ (can refl).healers) (workers_rest p servers healers (can refl) same (λ i x is. rw none at (each i x is)))

positive : (i : ℕ) → (0 ≡ i → ⊥) → 1 ≤ i
positive zero apart = absurd (apart refl)
positive (suc i) apart = omega arith

-- ---- the healers crawl from here on
module _ {crawl : Bool} (p : Plan) (servers : List Serving) (actors : List Actor) (healers : List Healer) (made : ℕ) (can : CanCrawl p) (v : IsWhole crawl p [] servers actors healers made) (x : Healer) (is : slice_get healers 0 ≡ Some x) where
  abbrev first : Healer
  first = record x { round = None }

  kept : IsVolume true p [] servers actors made
  kept = record {
    runnable = v.kept.runnable;
    room = v.kept.room;
    served = v.kept.served;
    same = v.kept.same;
    each = v.kept.each;
    made_is = v.kept.made_is;
    follows = tt;
    honest = v.kept.honest;
    lawful = v.kept.lawful;
    replied = v.kept.replied;
    blamed = v.kept.blamed;
    names = v.kept.names;
  }

  resting : (i : ℕ) (z : Healer) → slice_get healers i ≡ Some z → 1 ≤ i → z.round ≡ None
  resting = workers_rest p servers healers can v.healing.same v.healing.each

  each : (i : ℕ) (z : Healer) → slice_get (slice_set healers 0 first) i ≡ Some z → IsHealer true p [] (17 + i) servers z
  each = set_each (λ (i : ℕ) (z : Healer). IsHealer true p [] (17 + i) servers z) healers 0 first others (rests_first p 17 servers x (v.healing.each 0 x is))
    where
      others : (i : ℕ) (z : Healer) → (0 ≡ i → ⊥) → slice_get healers i ≡ Some z → IsHealer true p [] (17 + i) servers z
      others i z apart h =
          let none : z.round ≡ None = resting i z h (positive i apart) in
          let same : record z { round = None } ≡ z = ap (λ (round : Option Rounding). record z { round = round }) (sym none) in
          subst (λ (y : Healer). IsHealer true p [] (17 + i) servers y) same (rests_first p (17 + i) servers z (v.healing.each i z h))

  pub crawl_begins : IsWhole true p [] servers actors (slice_set healers 0 first) made
  crawl_begins = record {
    kept = kept;
    healing = record { same = length-set healers 0 first ∙ v.healing.same; each = each };
    pacing = record {
      clients = v.pacing.clients;
      rounds = set_each (λ (i : ℕ) (z : Healer). IsPacedRound p (17 + i) [] z.round) healers 0 first (λ i z apart h. v.pacing.rounds i z h) (record { within = λ cost e. omega arith; rooted = tt });
      rising = v.pacing.rising;
      within = v.pacing.within;
    };
    crawling = λ e. record {
      can = can;
      tasks = set_each (λ (i : ℕ) (z : Healer). 1 ≤ i → IsAtIts (17 + i) [] z.round) healers 0 first (λ i z apart h one. subst (IsAtIts (17 + i) []) (sym (resting i z h one)) tt) (λ one. absurd (omega (arith, one)));
    };
  }

  -- no source is chosen, before and after
  pub crawl_sources : sources_of (slice_set healers 0 first) ≡ sources_of healers
  crawl_sources =
      all_rest_first p [] servers (slice_set healers 0 first) (length-set healers 0 first ∙ v.healing.same) each refl
      ∙ sym (all_rest_first p [] servers healers v.healing.same v.healing.each refl)

  pub crawl_tasks : of_workers (slice_set healers 0 first) ≡ None ∷ None ∷ []
  crawl_tasks = first_tasks true p [] servers (slice_set healers 0 first) (length-set healers 0 first ∙ v.healing.same) each (λ e. can) refl

-- ---- a worker is given a task
module _ (laws : RoundLaws) (p : Plan) (a : ℕ) (log : List Line) (servers : List Serving) (actors : List Actor) (healers : List Healer) (made : ℕ) (item : Gfid × What) (x : Healer) (v : IsWhole true p log servers actors healers made) (worker : IsWorker a)
    (idle : slice_get (of_workers healers) (a - 18) ≡ Some None) (given : IsGiven p item log) (is : slice_get healers (a - 17) ≡ Some x) where
  abbrev after : Healer
  after = record x { round = Some (task_from p.shape item) }

  low : 18 ≤ a
  low = worker.0

  crawling : AreCrawling p log healers
  crawling = v.crawling refl

  again : 17 + (a - 17) ≡ a
  again = let l = worker.0 in omega (arith, l)

  place : a - 17 ≡ suc (a - 18)
  place = let l = worker.0 in omega (arith, l)

  mine : IsHealer true p log a servers x
  mine = subst (λ (c : ℕ). IsHealer true p log c servers x) again (v.healing.each (a - 17) x is)

  untasked : task_of x ≡ None
  untasked =
      let there : slice_get healers (suc (a - 18)) ≡ Some x = subst (λ (i : ℕ). slice_get healers i ≡ Some x) place is in
      let same : Some (task_of x) ≡ Some None = sym (ap (option_map task_of) there) ∙ sym (worker_get healers (a - 18)) ∙ idle in
      cc same

  none_under_way : (round : Option Rounding) → IsAtIts (17 + (a - 17)) log round → task_at round ≡ None → round ≡ None
  none_under_way None t e = refl
  none_under_way (Some m) t e = (let some : Some t.item ≡ None = sym (ap item_in t.list) ∙ e in absurd (cc some))

  none : x.round ≡ None
  none = none_under_way x.round (crawling.tasks (a - 17) x is (let l = worker.0 in omega (arith, l))) untasked

  rests : IsBetweenRounds a log x.visit.met
  rests = subst (CarriesIts true p a log x.visit.met x.visit.epochs servers) none mine.carries

  some : 0 < p.shape.n
  some = let many = crawling.can.healers in v.kept.runnable.healed (omega (arith, many))

  paced : IsPacedRound p a log (Some (task_from p.shape item))
  paced = record {
    within = λ cost e.
        let many : nat_lt 16 a ≡ true = grind (arith, nat_tests, low) in
        let past : slice_get [] (ended a log) ≡ Some cost = rw (many, crawling.can.crawls a worker) at e in
        absurd (cc past);
    rooted = λ lock held area. absurd (cc held);
  }

  pub task_begins : IsWhole true p log servers actors (slice_set healers (a - 17) after) made
  task_begins = record {
    kept = v.kept;
    healing = record {
      same = length-set healers (a - 17) after ∙ v.healing.same;
      each = set_each (λ (i : ℕ) (z : Healer). IsHealer true p log (17 + i) servers z) healers (a - 17) after (λ i z apart h. v.healing.each i z h)
          (subst (λ (c : ℕ). IsHealer true p log c servers after) (sym again) (laws.tasks p a log servers item x v.kept.runnable.few some low given none mine));
    };
    pacing = record {
      clients = v.pacing.clients;
      rounds = set_each (λ (i : ℕ) (z : Healer). IsPacedRound p (17 + i) log z.round) healers (a - 17) after (λ i z apart h. v.pacing.rounds i z h)
          (subst (λ (c : ℕ). IsPacedRound p c log (Some (task_from p.shape item))) (sym again) paced);
      rising = v.pacing.rising;
      within = v.pacing.within;
    };
    crawling = λ e. record {
      can = crawling.can;
      tasks = set_each (λ (i : ℕ) (z : Healer). 1 ≤ i → IsAtIts (17 + i) log z.round) healers (a - 17) after (λ i z apart h. crawling.tasks i z h)
          (λ one. subst (λ (c : ℕ). IsAtIts c log (Some (task_from p.shape item))) (sym again) (record { item = item; list = refl; of = subst (AreOfItem item) (sym rests.none) tt }));
    };
  }

  -- it has no source yet, and its task is the item
  pub task_sources : sources_of (slice_set healers (a - 17) after) ≡ sources_of healers
  task_sources = set_same healers (a - 17) x after is (sym (ap source_at none))

  pub task_given : of_workers (slice_set healers (a - 17) after) ≡ slice_set (of_workers healers) (a - 18) (Some item)
  task_given = rw place (given_to healers (a - 18))
    where
      map_set : (l : List Healer) (i : ℕ) → map task_of (slice_set l i after) ≡ slice_set (map task_of l) i (Some item)
      map_set [] i = refl
      map_set (z ∷ l) zero = refl
      map_set (z ∷ l) (suc i) = ap (λ (rest : List (Option (Gfid × What))). task_of z ∷ rest) (map_set l i)

      given_to : (l : List Healer) (i : ℕ) → of_workers (slice_set l (suc i) after) ≡ slice_set (of_workers l) i (Some item)
      given_to [] i = refl
      given_to (z ∷ l) i = map_set l i

-- ---- as the volume shows it
-- the healers crawl, and no worker is at a task
module _ {crawl : Bool} (p : Plan) (log : List Line) (servers : List Serving) (actors : List Actor) (healers new : List Healer) (made : ℕ) (picked : List (Option ℕ)) (can : CanCrawl p) (v : IsWhole crawl p log servers actors healers made) (none : log ≡ []) (r : RestsFirst healers new) where
  first_whole : IsWhole crawl p [] servers actors healers made
  first_whole = subst (λ (l : List Line). IsWhole crawl p l servers actors healers made) none v

  pub crawling_whole : IsWhole true p log servers actors new made
  crawling_whole =
      subst (λ (l : List Line). IsWhole true p l servers actors new made) (sym none)
      (subst (λ (l : List Healer). IsWhole true p [] servers actors l made) (sym r.set_is) (crawl_begins p servers actors healers made can first_whole r.before r.was))

  pub crawling_state : ◌≡◌ {A = State} (record { plan = p; log = log; sources = sources_of new; picked = picked; crawl = true; tasks = tasks_of true new })
      (record { plan = p; log = log; sources = sources_of healers; picked = picked; crawl = true; tasks = no_tasks true })
  crawling_state = λ i. record { plan = p; log = log; sources = same_sources i; picked = picked; crawl = true; tasks = same_tasks i }
    where
      same_sources : sources_of new ≡ sources_of healers
      same_sources = ap sources_of r.set_is ∙ crawl_sources p servers actors healers made can first_whole r.before r.was

      same_tasks : tasks_of true new ≡ no_tasks true
      same_tasks = ap of_workers r.set_is ∙ crawl_tasks p servers actors healers made can first_whole r.before r.was

-- a worker has its task
module _ (laws : RoundLaws) (p : Plan) (a : ℕ) (log : List Line) (servers : List Serving) (actors : List Actor) (healers new : List Healer) (made : ℕ) (item : Gfid × What) (picked : List (Option ℕ)) (worker : IsWorker a) (given : IsGiven p item log) (r : GivesTask p.shape a item healers new) where
  pub assigned_whole : (crawl : Bool) → crawl ≡ true → IsWhole crawl p log servers actors healers made → slice_get (tasks_of crawl healers) (a - 18) ≡ Some None → IsWhole crawl p log servers actors new made
  assigned_whole true crawls v idle = subst (λ (l : List Healer). IsWhole true p log servers actors l made) (sym r.set_is) (task_begins laws p a log servers actors healers made item r.before v worker idle given r.was)
  assigned_whole false crawls v idle = absurd (cc crawls)

  pub assigned_state : (crawl : Bool) → crawl ≡ true → IsWhole crawl p log servers actors healers made → slice_get (tasks_of crawl healers) (a - 18) ≡ Some None
      → ◌≡◌ {A = State} (record { plan = p; log = log; sources = sources_of new; picked = picked; crawl = crawl; tasks = tasks_of crawl new })
      (record { plan = p; log = log; sources = sources_of healers; picked = picked; crawl = crawl; tasks = slice_set (tasks_of crawl healers) (a - 18) (Some item) })
  assigned_state false crawls v idle = absurd (cc crawls)
  assigned_state true crawls v idle = λ i. record { plan = p; log = log; sources = same_sources i; picked = picked; crawl = true; tasks = same_tasks i }
    where
      same_sources : sources_of new ≡ sources_of healers
      same_sources = ap sources_of r.set_is ∙ task_sources laws p a log servers actors healers made item r.before v worker idle given r.was

      same_tasks : of_workers new ≡ slice_set (of_workers healers) (a - 18) (Some item)
      same_tasks = ap of_workers r.set_is ∙ task_given laws p a log servers actors healers made item r.before v worker idle given r.was

-- the worker is there, and the plan has a brick
pub worker_there : (p : Plan) (a : ℕ) (healers : List Healer) → CanCrawl p → length healers ≡ length p.healers → IsWorker a → a - 17 < length healers
worker_there p a healers can same worker = let many = can.healers in let low = worker.0 in let high = worker.1 in omega (arith, many, same, low, high)
