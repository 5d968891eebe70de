-- Who is done: a worker at a task isn't.
use Rattle.std.proofs.Common.{◌≡◌, ◌∙◌, ℕ, suc, ◌+◌, ◌-◌, ◌<◌, ◌≤◌, ◌||◌, ◌&&◌, not, Bool, true, false, List, Option, None, Some, refl, sym, ap, arith, subst, length, option_map, slice_get, nat_le, nat_lt}
use Rattle.std.proofs.lemmas.Bool.Decides.{nat_tests}
use Rattle.std.specs.Prelude.{is_some, option_and_then}
use Rattle.afr_base.specs.declared.ids.Gfid.{Gfid}
use Rattle.afr_base.specs.declared.ids.What.{What}
use Rattle.afr_base.proofs.TestLemmas.{neither_first}
use Rattle.afr_heal_round.specs.Rounding.{Rounding}
use Rattle.afr_healer.specs.declared.healer.Healer.{Healer}
use Rattle.afr_lines.specs.Work.{ended, is_killed}
use Rattle.afr_lines.specs.declared.line.Line.{Line}
use Rattle.afr_model.specs.Actors.{is_done, rounds_of, works_of}
use Rattle.afr_plan.specs.declared.plan.Plan.{Plan}
use Rattle.afr_volume.specs.Keeping.{AreCrawling, IsAtIts}
use Rattle.afr_volume.specs.State.{State}
use Rattle.afr_volume.specs.Tasks.{has_task, is_done_in, item_in, of_workers, task_at, task_of, tasks_of}
use Rattle.afr_volume.proofs.TaskLemmas.{worker_get}

-- ---- what the plan says of it
-- who is done has no work of the plan left
pub done_by_plan : (a : ℕ) (s : State) → is_done_in a s ≡ true → is_done s.plan a s.log ≡ true
done_by_plan a s h = by (is_killed a s.log) (has_task a s) (nat_le (works_of s.plan a) (ended a s.log)) h
  where
    by : (x y z : Bool) → (x || (not y && z)) ≡ true → (x || z) ≡ true
    by true y z h = refl
    by false true z h = absurd (cc h)
    by false false z h = h

-- where the healers go their own rounds, that is all
pub plain_done : (a : ℕ) (s : State) → s.crawl ≡ false → is_done_in a s ≡ is_done s.plan a s.log
plain_done a s plain = rw plain refl

-- so it is for clients
pub client_done : (a : ℕ) (s : State) → a ≤ 16 → is_done_in a s ≡ is_done s.plan a s.log
client_done a s client = by s.crawl (nat_lt 17 a) few
  where
    few : nat_lt 17 a ≡ false
    few = grind (arith, nat_tests, client)

    by : (c worker : Bool) → worker ≡ false → (is_killed a s.log || (not (c && (worker && is_some (option_and_then (λ (task : Option (Gfid × What)). task) (slice_get s.tasks (a - 18))))) && nat_le (works_of s.plan a) (ended a s.log))) ≡ is_done s.plan a s.log
    by true true e = absurd (cc e)
    by true false e = refl
    by false worker e = refl

pub client_left : (a : ℕ) (s : State) → a ≤ 16 → is_done_in a s ≡ false → is_done s.plan a s.log ≡ false
client_left a s client left = sym (client_done a s client) ∙ left

-- ---- who is killed, and who isn't at a task
pub not_killed_in : (a : ℕ) (s : State) → is_done_in a s ≡ false → is_killed a s.log ≡ false
not_killed_in a s h = neither_first (is_killed a s.log) (not (has_task a s) && nat_le (works_of s.plan a) (ended a s.log)) h

-- who isn't done and is at no task has work of the plan left
pub left_by_plan : (a : ℕ) (s : State) → has_task a s ≡ false → is_done_in a s ≡ false → is_done s.plan a s.log ≡ false
left_by_plan a s none h = by (is_killed a s.log) (has_task a s) (nat_le (works_of s.plan a) (ended a s.log)) none h
  where
    by : (x y z : Bool) → y ≡ false → (x || (not y && z)) ≡ false → (x || z) ≡ false
    by x true z e h = absurd (cc e)
    by x false z e h = h

-- who lives and is done is at no task
pub no_task : (a : ℕ) (s : State) → is_done_in a s ≡ true → is_killed a s.log ≡ false → has_task a s ≡ false
no_task a s h alive = by (is_killed a s.log) (has_task a s) (nat_le (works_of s.plan a) (ended a s.log)) alive h
  where
    by : (x y z : Bool) → x ≡ false → (x || (not y && z)) ≡ true → y ≡ false
    by true y z e h = absurd (cc e)
    by false true z e h = absurd (cc h)
    by false false z e h = refl

-- ---- as the volume keeps it
module _ (crawl : Bool) (p : Plan) (log : List Line) (sources picked : List (Option ℕ)) (healers : List Healer) (crawling : crawl ≡ true → AreCrawling p log healers) (a : ℕ) (low : 17 ≤ a) (x : Healer) (there : slice_get healers (a - 17) ≡ Some x) where
  abbrev pub state : State
  state = record { plan = p; log = log; sources = sources; picked = picked; crawl = crawl; tasks = tasks_of crawl healers }

  -- a worker at a task has it under way
  some_task : 18 ≤ a → (round : Option Rounding) → IsAtIts a log round → is_some (task_at round) ≡ is_some round
  some_task worker None t = refl
  some_task worker (Some m) t = ap (λ (list : Option (List (Gfid × What))). is_some (item_in list)) t.list

  worker_has : AreCrawling p log healers → 18 ≤ a → is_some (option_and_then (λ (task : Option (Gfid × What)). task) (slice_get (of_workers healers) (a - 18))) ≡ is_some x.round
  worker_has k worker =
      let place : a - 17 ≡ suc (a - 18) = omega (arith, worker) in
      let at : slice_get healers (suc (a - 18)) ≡ Some x = subst (λ (i : ℕ). slice_get healers i ≡ Some x) place there in
      let again : 17 + (a - 17) ≡ a = omega (arith, low) in
      ap (λ (o : Option (Option (Gfid × What))). is_some (option_and_then (λ (task : Option (Gfid × What)). task) o)) (worker_get healers (a - 18) ∙ ap (option_map task_of) at)
      ∙ some_task worker x.round (subst (λ (c : ℕ). IsAtIts c log x.round) again (k.tasks (a - 17) x there (omega (arith, worker))))

  -- as the code asks for it
  pub has_is : has_task a state ≡ (crawl && (nat_lt 17 a && is_some x.round))
  has_is = by crawl refl
    where
      worker : nat_lt 17 a ≡ true → 18 ≤ a
      worker e = grind (arith, nat_tests, e)

      by_place : AreCrawling p log healers → (flag : Bool) → nat_lt 17 a ≡ flag → (flag && is_some (option_and_then (λ (task : Option (Gfid × What)). task) (slice_get (of_workers healers) (a - 18)))) ≡ (flag && is_some x.round)
      by_place k true e = worker_has k (worker e)
      by_place k false e = refl

      by : (c : Bool) → crawl ≡ c → (c && (nat_lt 17 a && is_some (option_and_then (λ (task : Option (Gfid × What)). task) (slice_get (tasks_of c healers) (a - 18))))) ≡ (c && (nat_lt 17 a && is_some x.round))
      by true e = by_place (crawling e) (nat_lt 17 a) refl
      by false e = refl

  many : nat_lt 16 a ≡ true
  many = grind (arith, nat_tests, low)

  works_are : works_of p a ≡ length (rounds_of p a)
  works_are = rw many refl

  pub done_is : x.killed ≡ is_killed a log → x.ended ≡ ended a log → (result : Bool) → result ≡ (x.killed || (not (crawl && (nat_lt 17 a && is_some x.round)) && nat_le (length (rounds_of p a)) x.ended)) → result ≡ is_done_in a state
  done_is killed counted result is =
      is
      ∙ rw (killed, counted)
      (ap (λ (tasked : Bool). is_killed a log || (not tasked && nat_le (length (rounds_of p a)) (ended a log))) (sym has_is) ∙ ap (λ (works : ℕ). is_killed a log || (not (has_task a state) && nat_le works (ended a log))) (sym works_are))

  -- where it isn't done, a round that begins is the plan's
  pub left_is : x.ended ≡ ended a log → is_done_in a state ≡ false → x.round ≡ None → x.ended < length (rounds_of p a)
  left_is counted left none =
      let idle : has_task a state ≡ false = has_is ∙ rw none (none_so crawl (nat_lt 17 a)) in
      let open_work : nat_le (works_of p a) (ended a log) ≡ false = or_right (is_killed a log) _ (left_by_plan a state idle left) in
      let m : nat_le (length (rounds_of p a)) (ended a log) ≡ false = rw works_are at open_work in
      grind (arith, nat_tests, m, counted)
    where
      none_so : (x y : Bool) → (x && (y && false)) ≡ false
      none_so true true = refl
      none_so true false = refl
      none_so false y = refl

      or_right : (x y : Bool) → (x || y) ≡ false → y ≡ false
      or_right true y h = absurd (cc h)
      or_right false y h = h

  -- who lives and is done has a round under way only where it is no worker
  pub goes_rounds : is_done_in a state ≡ true → is_killed a log ≡ false → (m : Rounding) → x.round ≡ Some m → crawl ≡ true → a ≡ 17
  goes_rounds done alive m is crawls =
      let none : (crawl && (nat_lt 17 a && is_some x.round)) ≡ false = sym has_is ∙ no_task a state done alive in
      let here : (true && (nat_lt 17 a && is_some (Some m))) ≡ false = rw (crawls, is) at none in
      by (nat_lt 17 a) refl here
    where
      by : (flag : Bool) → nat_lt 17 a ≡ flag → (flag && true) ≡ false → a ≡ 17
      by true e h = absurd (cc h)
      by false e h = grind (arith, nat_tests, e, low)
