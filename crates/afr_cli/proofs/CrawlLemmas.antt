-- Which plans can be crawled, and where a crawl that is over has nothing left to do.
use Rattle.std.proofs.Common.{◌≡◌, ◌∙◌, ◌⊎◌, inl, inr, ℕ, suc, ◌+◌, ◌-◌, ◌<◌, ◌≤◌, ◌||◌, ◌&&◌, ◌==◌, not, Bool, true, false, List, [], ◌∷◌, Option, None, Some, if◌then◌else◌, refl, sym, ap, arith, length, map, nat_le, nat_lt, get_or, slice_get}
use Rattle.std.proofs.lemmas.Bool.{cases_lt}
use Rattle.std.proofs.lemmas.Bool.Decides.{nat_tests}
use Rattle.std.proofs.lemmas.List.Sums.{sum_by-cons}
use Rattle.std.proofs.lemmas.Option.{get_or_from_slice_get}
use Rattle.std.specs.Prelude.{is_some, option_and_then, slice_index_or, sum}
use Rattle.afr_base.specs.declared.ids.BrickId.{BrickId}
use Rattle.afr_base.specs.declared.ids.Gfid.{Gfid}
use Rattle.afr_base.specs.declared.ids.What.{What}
use Rattle.afr_lines.specs.Work.{ended, is_killed, work}
use Rattle.afr_lines.specs.declared.line.Line.{Line}
use Rattle.afr_lines.specs.declared.line.Line.TheVariants.{Ask, Begin, End, Event, HealBegin, HealEnd}
use Rattle.afr_model.specs.Actors.{IsActor, is_done, rounds_of, works_of}
use Rattle.afr_model.specs.Complete.{IsComplete, IsFinished}
use Rattle.afr_model.specs.Crawl.{CanCrawl, IsTried, IsWorker, item_by, items_of, lists_by, tasks_by, with_item}
use Rattle.afr_plan.specs.declared.plan.Plan.{Plan}
use Rattle.afr_report.specs.Workers.{is_untried, items_given, tasks_ended}
use Rattle.afr_volume.specs.State.{State}
use Rattle.afr_volume.specs.Tasks.{has_task, is_done_in, task_by}
use Rattle.afr_workers.specs.Crew.{IsCrawled, IsTriedIn}
use Rattle.afr_cli.specs.Crawl.{AreDoneIn, IsCrawlLeft}
use Rattle.afr_cli.specs.Statuses.{IsFull}

-- ---- plans
-- the second healer and the third are the workers
pub can_by : (p : Plan) → length p.healers ≡ 3 → slice_index_or p.healers 1 [] ≡ [] → slice_index_or p.healers 2 [] ≡ [] → CanCrawl p
can_by p three second third = record { healers = three; crawls = none }
  where
    none : (a : ℕ) → IsWorker a → rounds_of p a ≡ []
    none a worker = elim (cases_lt a 19) [
      | inl low ↦ let place : a - 17 ≡ 1 = omega (arith, worker.0, low) in ap (λ (i : ℕ). get_or p.healers i []) place ∙ second
      | inr high ↦ let place : a - 17 ≡ 2 = omega (arith, worker.1, high) in ap (λ (i : ℕ). get_or p.healers i []) place ∙ third
    ]

pub second_rests : (p : Plan) → CanCrawl p → slice_index_or p.healers 1 [] ≡ []
second_rests p can = can.crawls 18 (omega arith, omega arith)

pub third_rests : (p : Plan) → CanCrawl p → slice_index_or p.healers 2 [] ≡ []
third_rests p can = can.crawls 19 (omega arith, omega arith)

-- the healer at a place has no rounds exactly where its list has no length
pub none_there : (p : Plan) (at : ℕ) (one : List BrickId) → slice_get p.healers at ≡ Some one → length one ≡ 0 → slice_index_or p.healers at [] ≡ []
none_there p at [] there e = get_or_from_slice_get p.healers at [] [] there
none_there p at (b ∷ more) there e = absurd (omega (arith, e))

pub length_there : (p : Plan) (at : ℕ) (one : List BrickId) → slice_get p.healers at ≡ Some one → slice_index_or p.healers at [] ≡ [] → length one ≡ 0
length_there p at one there e = ap length (sym (get_or_from_slice_get p.healers at one [] there) ∙ e)

-- ---- tasks
-- there are at most as many as works that ended
few_tasks : (a : ℕ) (log : List Line) → length (tasks_by a log) ≤ ended a log
few_tasks a [] = omega arith
few_tasks a (Ask x b asked told took ∷ older) = few_tasks a older
few_tasks a (Begin x change ∷ older) = few_tasks a older
few_tasks a (HealBegin x g kind ∷ older) = few_tasks a older
few_tasks a (End x said ∷ older) = by (x.0 == a) (item_by (work a older)) (few_tasks a older)
  where
    by : (own : Bool) (item : Option (Gfid × What)) → length (tasks_by a older) ≤ ended a older → length (if own then with_item item (tasks_by a older) else tasks_by a older) ≤ (if own then ended a older + 1 else ended a older)
    by true None h = omega (arith, h)
    by true (Some item) h = omega (arith, h)
    by false item h = h
few_tasks a (HealEnd x g kind said ∷ older) = few_tasks a older
few_tasks a (Event event ∷ older) = few_tasks a older

module _ {A : Type 0} where
  ones : (l : List A) → sum (map (λ (x : A). 1) l) ≡ length l
  ones [] = refl
  ones (x ∷ l) = let rest = ones l in omega (arith, rest, sum_by-cons (λ (n : ℕ). n) 1 (map (λ (x : A). 1) l))

-- where each item was as often a task as it was given, enough tasks have ended
tried_enough : (p : Plan) (log : List Line) → IsTried p log → items_given p log ≤ tasks_ended log
tried_enough p log tried =
    let even : sum (map (λ (x : Gfid × What). 1) (tasks_by 18 log)) + sum (map (λ (x : Gfid × What). 1) (tasks_by 19 log)) ≡ sum (map (λ (x : Gfid × What). 1) (items_of (lists_by p log))) = tried (λ x. 1) in
    omega (arith, even, ones (tasks_by 18 log), ones (tasks_by 19 log), ones (items_of (lists_by p log)), few_tasks 18 log, few_tasks 19 log)

not_untried : (s : State) → IsTriedIn s → length s.log < s.plan.turns → is_untried s.plan s.log ≡ false
not_untried s tried room = by (is_killed 18 s.log) (is_killed 19 s.log) (nat_lt (tasks_ended s.log) (items_given s.plan s.log)) refl refl refl
  where
    by : (second third fewer : Bool) → is_killed 18 s.log ≡ second → is_killed 19 s.log ≡ third → nat_lt (tasks_ended s.log) (items_given s.plan s.log) ≡ fewer → (not (second || third) && fewer) ≡ false
    by true third fewer e f g = refl
    by false true fewer e f g = refl
    by false false true e f g =
        let few : tasks_ended s.log < items_given s.plan s.log = grind (arith, nat_tests, g) in
        absurd (omega (arith, few, tried_enough s.plan s.log (tried room e f)))
    by false false false e f g = refl

-- ---- actors
no_task : (a : ℕ) (s : State) → (nat_lt 17 a ≡ false) ⊎ (slice_get s.tasks (a - 18) ≡ Some None) → has_task a s ≡ false
no_task a s (inl low) = by s.crawl (nat_lt 17 a) (is_some (task_by a s)) low
  where
    by : (crawl worker at : Bool) → worker ≡ false → (crawl && (worker && at)) ≡ false
    by true true at e = absurd (cc e)
    by true false at e = refl
    by false worker at e = refl
no_task a s (inr none) = by s.crawl (nat_lt 17 a) (is_some (task_by a s)) (ap (λ (o : Option (Option (Gfid × What))). is_some (option_and_then (λ (task : Option (Gfid × What)). task) o)) none)
  where
    by : (crawl worker at : Bool) → at ≡ false → (crawl && (worker && at)) ≡ false
    by true true at e = e
    by true false at e = refl
    by false worker at e = refl

idle_done : (a : ℕ) (s : State) → is_done s.plan a s.log ≡ true → (is_killed a s.log ≡ false → has_task a s ≡ false) → is_done_in a s ≡ true
idle_done a s done idle = by (is_killed a s.log) (has_task a s) (nat_le (works_of s.plan a) (ended a s.log)) done idle
  where
    by : (killed tasked enough : Bool) → (killed || enough) ≡ true → (killed ≡ false → tasked ≡ false) → (killed || (not tasked && enough)) ≡ true
    by true tasked enough d i = refl
    by false true enough d i = absurd (cc (i refl))
    by false false enough d i = d

worker_or_not : (s : State) (a : ℕ) → length s.plan.clients ≤ 16 → length s.plan.healers ≤ 3 → IsActor s.plan a → (nat_lt 17 a ≡ false) ⊎ IsWorker a
worker_or_not s a clients healers (IsActor.Client low high) = inl (grind (arith, nat_tests, high, clients))
worker_or_not s a clients healers (IsActor.Healer low high) = elim (cases_lt 17 a) [
  | inl more ↦ inr (omega (arith, more), omega (arith, high, healers))
  | inr few ↦ inl (grind (arith, nat_tests, few))
]

module _ (s : State) (crawled : IsCrawled s) (clients : length s.plan.clients ≤ 16) (healers : length s.plan.healers ≤ 3) (room : length s.log < s.plan.turns) where
  finished : IsFinished s.plan s.log
  finished = by crawled.complete
    where
      by : IsComplete s.plan s.log → IsFinished s.plan s.log
      by (inl full) = absurd (omega (arith, full, room))
      by (inr f) = f

  all_idle : AreDoneIn s
  all_idle a actor = idle_done a s (finished.done a actor) (λ alive. no_task a s (by (worker_or_not s a clients healers actor) alive))
    where
      by : (nat_lt 17 a ≡ false) ⊎ IsWorker a → is_killed a s.log ≡ false → (nat_lt 17 a ≡ false) ⊎ (slice_get s.tasks (a - 18) ≡ Some None)
      by (inl low) alive = inl low
      by (inr worker) alive = inr (crawled.idle room a worker alive)

-- where work is left, the log is full
pub left_is_full : (s : State) → IsCrawled s → IsTriedIn s → length s.plan.clients ≤ 16 → length s.plan.healers ≤ 3 → length s.log ≤ s.plan.turns → IsCrawlLeft s → IsFull s.plan s.log
left_is_full s crawled tried clients healers room left = elim (cases_lt (length s.log) s.plan.turns) [
  | inl more ↦ by more left
  | inr full ↦ omega (arith, full, room)
]
  where
    by : length s.log < s.plan.turns → IsCrawlLeft s → IsFull s.plan s.log
    by more (inl h) = absurd (let done = all_idle s crawled clients healers more h.actor h.planned in let open_work = h.left in cc)
    by more (inr h) = absurd (let none = not_untried s tried more in cc)
