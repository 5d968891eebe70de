-- What a line, an event and an assignment leave of how far a crawl has come.
use Rattle.std.proofs.Common.{◌≡◌, ◌≢◌, ◌∙◌, ℕ, zero, suc, ◌+◌, ◌-◌, ◌≤◌, ◌==◌, ◌||◌, ◌&&◌, ◌⊎◌, not, nat_le, nat_lt, Bool, true, false, List, [], ◌∷◌, Option, None, Some, if◌then◌else◌, inl, inr, refl, sym, ap, arith, subst, slice_get, slice_set}
use Rattle.std.specs.Prelude.{is_some, option_and_then}
use Rattle.std.proofs.lemmas.Bool.Decides.{eqb_tells, nat_tests}
use Rattle.afr_base.specs.declared.ids.ActorId.{ActorId}
use Rattle.afr_base.proofs.TestLemmas.{neither_second}
use Rattle.afr_lines.specs.Work.{ended, is_end, is_killed, is_of, kills, work}
use Rattle.afr_lines.specs.declared.line.Line.{Line}
use Rattle.afr_lines.specs.declared.line.Line.TheVariants.{Ask, Begin, End, Event, HealBegin, HealEnd}
use Rattle.afr_model.specs.Actors.{works_of}
use Rattle.afr_model.specs.Crawl.{CanCrawl, IsTried, IsWorker, item_by, items_of, lists_by, tasks_by, with_item}
use Rattle.afr_plan.specs.declared.plan.Plan.{Plan}
use Rattle.afr_tasks.proofs.Balances.{weigh_append}
use Rattle.afr_tasks.specs.Balance.{weigh}
use Rattle.afr_volume.specs.State.{State, opened_for}
use Rattle.afr_volume.specs.Tasks.{has_task, is_done_in, task_by}
use Rattle.afr_volume.specs.Turning.{AddsLine, Comes, IsTaskLine}
use Rattle.afr_workers.specs.Crew.{AreGiven, IsCrew, IsPlaced, first_crew, noted, tasks_given}
use Rattle.afr_workers.specs.Cursor.{ComesNext, IsLast, IsPlace, Item, items_before}
use Rattle.afr_workers.specs.declared.crew.Crew.{Crew}
use Rattle.afr_workers.proofs.GivenLemmas.{lists_grow}
use Rattle.afr_workers.proofs.PlaceLemmas.{Grows, Stays, before_next, before_stays, place_next, place_stays, sum_is, weigh_given}

-- ---- a line of an actor
-- it kills nobody
kills_none : (a c : ℕ) (line : Line) → is_of a line ≡ true → kills c line ≡ false
kills_none a c (Event event) own = absurd (cc own)
kills_none a c (Ask x b asked told took) own = refl
kills_none a c (Begin x change) own = refl
kills_none a c (HealBegin x g kind) own = refl
kills_none a c (HealEnd x g kind said) own = refl
kills_none a c (End x said) own = refl

pub still_lives : (a c : ℕ) (line : Line) (log : List Line) → is_of a line ≡ true → is_killed c (line ∷ log) ≡ is_killed c log
still_lives a c line log own = rw (kills_none a c line own) refl

-- it ends no task of another
tasks_beside : (a c : ℕ) (line : Line) (log : List Line) → is_of a line ≡ true → a ≢ c → tasks_by c (line ∷ log) ≡ tasks_by c log
tasks_beside a c (End x said) log own apart = (let same : x.0 ≡ a = grind (arith, nat_tests, own) in let other : (x.0 == c) ≡ false = rw same (differ a c apart) in rw other refl)
  where
    differ : (a c : ℕ) → a ≢ c → (a == c) ≡ false
    differ a c apart = grind (arith, nat_tests, apart)
tasks_beside a c (Ask x b asked told took) log own apart = refl
tasks_beside a c (Begin x change) log own apart = refl
tasks_beside a c (HealBegin x g kind) log own apart = refl
tasks_beside a c (HealEnd x g kind said) log own apart = refl
tasks_beside a c (Event event) log own apart = refl

-- and its own where it is the end of a work
tasks_end : (a : ℕ) (line : Line) (log : List Line) → is_of a line ≡ true → is_end line ≡ true → tasks_by a (line ∷ log) ≡ with_item (item_by (work a log)) (tasks_by a log)
tasks_end a (End x said) log own end = rw own refl
tasks_end a (Ask x b asked told took) log own end = absurd (cc end)
tasks_end a (Begin x change) log own end = absurd (cc end)
tasks_end a (HealBegin x g kind) log own end = absurd (cc end)
tasks_end a (HealEnd x g kind said) log own end = absurd (cc end)
tasks_end a (Event event) log own end = absurd (cc end)

tasks_unended : (a : ℕ) (line : Line) (log : List Line) → is_end line ≡ false → tasks_by a (line ∷ log) ≡ tasks_by a log
tasks_unended a (End x said) log end = absurd (cc end)
tasks_unended a (Ask x b asked told took) log end = refl
tasks_unended a (Begin x change) log end = refl
tasks_unended a (HealBegin x g kind) log end = refl
tasks_unended a (HealEnd x g kind said) log end = refl
tasks_unended a (Event event) log end = refl

-- ---- who is at a task
abbrev present : Option (Option Item) → Option Item
present o = option_and_then (λ (task : Option Item). task) o

task_is : (a : ℕ) (s : State) (task : Option Item) → slice_get s.tasks (a - 18) ≡ Some task → task_by a s ≡ task
task_is a s task is = ap present is

no_works : (p : Plan) (a : ℕ) → CanCrawl p → IsWorker a → works_of p a ≡ 0
no_works p a can worker = (let low = worker.0 in let many : nat_lt 16 a ≡ true = grind (arith, nat_tests, low) in rw (many, can.crawls a worker) refl)

-- a worker that is at no task is done
idle_done : (a : ℕ) (s : State) → CanCrawl s.plan → IsWorker a → slice_get s.tasks (a - 18) ≡ Some None → is_done_in a s ≡ true
idle_done a s can worker is = done (is_killed a s.log) (has_task a s) (nat_le (works_of s.plan a) (ended a s.log)) none few
  where
    done : (x y z : Bool) → y ≡ false → z ≡ true → (x || (not y && z)) ≡ true
    done true y z e f = refl
    done false true z e f = absurd (cc e)
    done false false z e f = f

    never : (x y : Bool) → (x && (y && false)) ≡ false
    never true true = refl
    never true false = refl
    never false y = refl

    none : has_task a s ≡ false
    none = ap (λ (task : Option Item). s.crawl && (nat_lt 17 a && is_some task)) (task_is a s None is) ∙ never s.crawl (nat_lt 17 a)

    few : nat_le (works_of s.plan a) (ended a s.log) ≡ true
    few = let low : nat_le 0 (ended a s.log) ≡ true = grind (arith, nat_tests) in subst (λ (works : ℕ). nat_le works (ended a s.log) ≡ true) (sym (no_works s.plan a can worker)) low

-- one that lives and is at a task isn't
pub busy_left : (a : ℕ) (s : State) (item : Item) → s.crawl ≡ true → IsWorker a → is_killed a s.log ≡ false → slice_get s.tasks (a - 18) ≡ Some (Some item) → is_done_in a s ≡ false
busy_left a s item crawls worker alive is = left (is_killed a s.log) (has_task a s) (nat_le (works_of s.plan a) (ended a s.log)) alive some
  where
    left : (x y z : Bool) → x ≡ false → y ≡ true → (x || (not y && z)) ≡ false
    left true y z e f = absurd (cc e)
    left false true z e f = refl
    left false false z e f = absurd (cc f)

    both : (x y z : Bool) → x ≡ true → y ≡ true → z ≡ true → (x && (y && z)) ≡ true
    both true true z e f g = g
    both true false z e f g = absurd (cc f)
    both false y z e f g = absurd (cc e)

    some : has_task a s ≡ true
    some = let low = worker.0 in both s.crawl (nat_lt 17 a) (is_some (task_by a s)) crawls (grind (arith, nat_tests, low)) (ap (λ (task : Option Item). is_some task) (task_is a s (Some item) is))

-- one that lives and is done is at no task
pub idle_of : (a : ℕ) (s : State) (crew : Crew) → IsPlaced crew s → IsWorker a → is_killed a s.log ≡ false → is_done_in a s ≡ true → slice_get s.tasks (a - 18) ≡ Some None
idle_of a s crew k worker alive done = by (k.there a worker).0 (k.there a worker).1
  where
    by : (task : Option Item) → slice_get s.tasks (a - 18) ≡ Some task → slice_get s.tasks (a - 18) ≡ Some None
    by None is = is
    by (Some item) is = absurd (let left = busy_left a s item k.crawls worker alive is in cc (sym left ∙ done))

-- ---- what a line and an event leave
-- the lists grow, both workers have the tasks that they were given, and who lives now lived before
pub record Proceeds (old new : State) : Type 0 where
  pub lists : Grows (lists_by old.plan old.log) (lists_by new.plan new.log)
  pub given : (c : ℕ) → IsWorker c → tasks_given c new ≡ tasks_given c old
  pub lives : (c : ℕ) → is_killed c new.log ≡ false → is_killed c old.log ≡ false

pub given_stays : (old new : State) (round at : ℕ) → Proceeds old new → IsPlace (lists_by old.plan old.log) round at → AreGiven round at old → AreGiven round at new
given_stays old new round at p place given = λ two three worth.
    let left = ap (weigh worth) (p.given 18 (omega arith, omega arith)) in
    let right = ap (weigh worth) (p.given 19 (omega arith, omega arith)) in
    let was = given (p.lives 18 two) (p.lives 19 three) worth in
    let stays = ap (weigh worth) (before_stays _ _ round at p.lists place) in
    omega (arith, left, right, was, stays)

record KeepsGiven (c : ℕ) (old new : State) : Type 0 where
  there : (task : Option Item) × (slice_get new.tasks (c - 18) ≡ Some task)
  given : tasks_given c new ≡ tasks_given c old

module _ (a : ActorId) (old new : State) (waits : Option ActorId) (h : AddsLine a old waits new) (crew : Crew) (k : IsPlaced crew old) where
  -- another worker has the tasks that it had
  others_keep : (c : ℕ) → IsWorker c → a.0 ≢ c → KeepsGiven c old new
  others_keep c worker apart =
      let low = worker.0 in
      let here : slice_get new.tasks (c - 18) ≡ slice_get old.tasks (c - 18) = h.others_tasks (c - 18) (λ e. apart (omega (arith, e, low))) in
      let log : tasks_by c new.log ≡ tasks_by c old.log = ap (tasks_by c) h.added ∙ tasks_beside a.0 c h.line old.log h.own apart in
      record {
        there = ((k.there c worker).0, here ∙ (k.there c worker).1);
        given = ap (λ (task : Option Item). with_item task (tasks_by c new.log)) (ap present here) ∙ ap (λ (tasks : List Item). with_item (task_by c old) tasks) log;
      }

  -- its own goes on, or has ended with its item
  own_keeps : IsWorker a.0 → KeepsGiven a.0 old new
  own_keeps worker = by (k.there a.0 worker).0 (k.there a.0 worker).1
    where
      goes_on : (item : Item) → slice_get old.tasks (a.0 - 18) ≡ Some (Some item) → slice_get new.tasks (a.0 - 18) ≡ Some (Some item) → is_end h.line ≡ false → KeepsGiven a.0 old new
      goes_on item is now end =
          let log : tasks_by a.0 new.log ≡ tasks_by a.0 old.log = ap (tasks_by a.0) h.added ∙ tasks_unended a.0 h.line old.log end in
          record {
            there = (Some item, now);
            given = ap (λ (task : Option Item). with_item task (tasks_by a.0 new.log)) (task_is a.0 new (Some item) now ∙ sym (task_is a.0 old (Some item) is)) ∙ ap (λ (tasks : List Item). with_item (task_by a.0 old) tasks) log;
          }

      is_over : (item : Item) → slice_get old.tasks (a.0 - 18) ≡ Some (Some item) → slice_get new.tasks (a.0 - 18) ≡ Some None → is_end h.line ≡ true → item_by (work a.0 old.log) ≡ Some item → KeepsGiven a.0 old new
      is_over item is now end tried =
          let log : tasks_by a.0 new.log ≡ with_item (item_by (work a.0 old.log)) (tasks_by a.0 old.log) = ap (tasks_by a.0) h.added ∙ tasks_end a.0 h.line old.log h.own end in
          record {
            there = (None, now);
            given =
                ap (λ (task : Option Item). with_item task (tasks_by a.0 new.log)) (task_is a.0 new None now)
                ∙ log
                ∙ ap (λ (task : Option Item). with_item task (tasks_by a.0 old.log)) (tried ∙ sym (task_is a.0 old (Some item) is));
          }

      by_end : (item : Item) → slice_get old.tasks (a.0 - 18) ≡ Some (Some item) → IsTaskLine a.0 item h.line old.log new.tasks → (end : Bool) → is_end h.line ≡ end → KeepsGiven a.0 old new
      by_end item is t true e = is_over item is (t.present ∙ ap (λ (end : Bool). Some (if end then None else Some item)) e) e (t.tried e)
      by_end item is t false e = goes_on item is (t.present ∙ ap (λ (end : Bool). Some (if end then None else Some item)) e) e

      by : (task : Option Item) → slice_get old.tasks (a.0 - 18) ≡ Some task → KeepsGiven a.0 old new
      by None is = absurd (let done = idle_done a.0 old k.can worker is in let left = h.left in cc (sym done ∙ left))
      by (Some item) is = by_end item is (h.own_task item worker.0 is) (is_end h.line) refl

  keeps_given : (c : ℕ) → IsWorker c → KeepsGiven c old new
  keeps_given c worker = by (eqb_tells a.0 c)
    where
      by : ((a.0 == c) ≡ true) × (a.0 ≡ c) ⊎ ((a.0 == c) ≡ false) × (a.0 ≢ c) → KeepsGiven c old new
      by (inl e) = subst (λ (d : ℕ). KeepsGiven d old new) e.1 (own_keeps (subst IsWorker (sym e.1) worker))
      by (inr e) = others_keep c worker e.1

  grows : Grows (lists_by old.plan old.log) (lists_by new.plan new.log)
  grows =
      let plan : new.plan ≡ old.plan = h.plan in
      let added : new.log ≡ h.line ∷ old.log = h.added in
      rw (plan, added) (lists_grow old.plan h.line old.log)

  pub line_proceeds : Proceeds old new
  line_proceeds = record {
    lists = grows;
    given = λ c worker. (keeps_given c worker).given;
    lives = λ c alive. sym (ap (is_killed c) h.added ∙ still_lives a.0 c h.line old.log h.own) ∙ alive;
  }

  pub line_placed : IsPlaced crew new
  line_placed = record {
    crawls = h.crawl ∙ k.crawls;
    can = subst CanCrawl (sym h.plan) k.can;
    there = λ c worker. (keeps_given c worker).there;
    place = place_stays _ _ crew.round crew.at grows k.place;
    second = k.second ∙ sym (ap (is_killed 18) h.added ∙ still_lives a.0 18 h.line old.log h.own);
    third = k.third ∙ sym (ap (is_killed 19) h.added ∙ still_lives a.0 19 h.line old.log h.own);
  }

pub line_kept : (a : ActorId) (old new : State) (waits : Option ActorId) → AddsLine a old waits new → (crew : Crew) → IsCrew crew old → IsCrew crew new
line_kept a old new waits h crew k = record {
  placed = line_placed a old new waits h crew k.placed;
  given = given_stays old new crew.round crew.at (line_proceeds a old new waits h crew k.placed) k.placed.place k.given;
}

-- an event gives nothing
pub event_proceeds : (old new : State) → Comes old new → Proceeds old new
event_proceeds old new h =
    subst (λ (s : State). Proceeds old s) (sym h.added)
    (record {
      lists = Stays;
      given = λ c worker. refl;
      lives = λ c alive. neither_second (kills c (Event h.event)) (is_killed c old.log) alive;
    })

pub event_placed : (old new : State) (h : Comes old new) (crew : Crew) → IsPlaced crew old → IsPlaced (noted h.event crew) new
event_placed old new h crew k =
    subst (λ (s : State). IsPlaced (noted h.event crew) s) (sym h.added)
    (record {
      crawls = k.crawls;
      can = k.can;
      there = k.there;
      place = k.place;
      second = ap (λ (dead : Bool). kills 18 (Event h.event) || dead) k.second;
      third = ap (λ (dead : Bool). kills 19 (Event h.event) || dead) k.third;
    })

pub event_kept : (old new : State) (h : Comes old new) (crew : Crew) → IsCrew crew old → IsCrew (noted h.event crew) new
event_kept old new h crew k = record {
  placed = event_placed old new h crew k.placed;
  given = given_stays old new crew.round crew.at (event_proceeds old new h) k.placed.place k.given;
}

-- ---- what an assignment leaves
set_here : (l : List (Option Item)) (i : ℕ) (x y : Option Item) → slice_get l i ≡ Some x → slice_get (slice_set l i y) i ≡ Some y
set_here [] i x y is = absurd (cc is)
set_here (z ∷ l) zero x y is = refl
set_here (z ∷ l) (suc i) x y is = set_here l i x y is

set_other : (l : List (Option Item)) (i j : ℕ) (y : Option Item) → i ≢ j → slice_get (slice_set l i y) j ≡ slice_get l j
set_other [] zero j y apart = refl
set_other [] (suc i) j y apart = refl
set_other (z ∷ l) zero zero y apart = absurd (apart refl)
set_other (z ∷ l) zero (suc j) y apart = refl
set_other (z ∷ l) (suc i) zero y apart = refl
set_other (z ∷ l) (suc i) (suc j) y apart = set_other l i j y (λ same. apart (ap suc same))

-- an item more comes before the next one
pub next_placed : (crew : Crew) (s : State) (round at : ℕ) (item : Item) → ComesNext (lists_by s.plan s.log) crew.round crew.at round at item → IsPlaced crew s → IsPlaced (record crew { round = round; at = at + 1 }) s
next_placed crew s round at item next k = record {
  crawls = k.crawls;
  can = k.can;
  there = k.there;
  place = place_next (lists_by s.plan s.log) crew.round crew.at round at item next;
  second = k.second;
  third = k.third;
}

module _ (a : ℕ) (old : State) (item : Item) (worker : IsWorker a) (is : slice_get old.tasks (a - 18) ≡ Some None) where
  abbrev assigned : State
  assigned = record old { tasks = slice_set old.tasks (a - 18) (Some item) }

  pub assigned_own : tasks_given a assigned ≡ item ∷ tasks_given a old
  assigned_own =
      let now : tasks_given a assigned ≡ item ∷ tasks_by a old.log = ap (λ (task : Option Item). with_item task (tasks_by a old.log)) (task_is a assigned (Some item) (set_here old.tasks (a - 18) None (Some item) is)) in
      let was : tasks_given a old ≡ tasks_by a old.log = ap (λ (task : Option Item). with_item task (tasks_by a old.log)) (task_is a old None is) in
      now ∙ ap (λ (tasks : List Item). item ∷ tasks) (sym was)

  there_other : (c : ℕ) → IsWorker c → a ≢ c → slice_get assigned.tasks (c - 18) ≡ slice_get old.tasks (c - 18)
  there_other c other apart = let low = worker.0 in let low_too = other.0 in set_other old.tasks (a - 18) (c - 18) (Some item) (λ e. apart (omega (arith, e, low, low_too)))

  pub assigned_other : (c : ℕ) → IsWorker c → a ≢ c → tasks_given c assigned ≡ tasks_given c old
  assigned_other c other apart = ap (λ (task : Option Item). with_item task (tasks_by c old.log)) (ap present (there_other c other apart))

  assigned_there : ((c : ℕ) → IsWorker c → (task : Option Item) × (slice_get old.tasks (c - 18) ≡ Some task)) → (c : ℕ) → IsWorker c → (task : Option Item) × (slice_get assigned.tasks (c - 18) ≡ Some task)
  assigned_there there c other = by (eqb_tells a c)
    where
      by : ((a == c) ≡ true) × (a ≡ c) ⊎ ((a == c) ≡ false) × (a ≢ c) → (task : Option Item) × (slice_get assigned.tasks (c - 18) ≡ Some task)
      by (inl e) = (Some item, subst (λ (d : ℕ). slice_get assigned.tasks (d - 18) ≡ Some (Some item)) e.1 (set_here old.tasks (a - 18) None (Some item) is))
      by (inr e) = ((there c other).0, there_other c other e.1 ∙ (there c other).1)

  both_given : (worth : Item → ℕ) → weigh worth (tasks_given 18 assigned) + weigh worth (tasks_given 19 assigned) ≡ weigh worth (tasks_given 18 old) + weigh worth (tasks_given 19 old) + worth item
  both_given worth = by (eqb_tells a 18)
    where
      own : (c : ℕ) → a ≡ c → weigh worth (tasks_given c assigned) ≡ weigh worth (tasks_given c old) + worth item
      own c same = subst (λ (b : ℕ). weigh worth (tasks_given b assigned) ≡ weigh worth (tasks_given b old) + worth item) same (let added = ap (weigh worth) assigned_own in omega (arith, added))

      last : a ≢ 18 → a ≡ 19
      last apart = let low = worker.0 in let high = worker.1 in grind (arith, nat_tests, apart, low, high)

      by : ((a == 18) ≡ true) × (a ≡ 18) ⊎ ((a == 18) ≡ false) × (a ≢ 18) → weigh worth (tasks_given 18 assigned) + weigh worth (tasks_given 19 assigned) ≡ weigh worth (tasks_given 18 old) + weigh worth (tasks_given 19 old) + worth item
      by (inl e) =
          let same = e.1 in
          let other = ap (weigh worth) (assigned_other 19 (omega arith, omega arith) (λ f. absurd (omega (arith, f, same)))) in
          omega (arith, own 18 same, other)
      by (inr e) =
          let apart = e.1 in
          let other = ap (weigh worth) (assigned_other 18 (omega arith, omega arith) apart) in
          omega (arith, own 19 (last apart), other)

  pub assigned_placed : (new : State) (crew : Crew) → new ≡ assigned → IsPlaced crew old → IsPlaced crew new
  assigned_placed new crew same k =
      subst (λ (s : State). IsPlaced crew s) (sym same) (record { crawls = k.crawls; can = k.can; there = assigned_there k.there; place = k.place; second = k.second; third = k.third })

  pub assigned_kept : (new : State) (crew : Crew) (round at : ℕ) → new ≡ assigned → ComesNext (lists_by old.plan old.log) crew.round crew.at round at item → IsCrew crew old → IsCrew (record crew { round = round; at = at + 1 }) new
  assigned_kept new crew round at same next k =
      subst (λ (s : State). IsCrew (record crew { round = round; at = at + 1 }) s) (sym same)
      (record {
        placed = next_placed crew assigned round at item next (assigned_placed assigned crew refl k.placed);
        given = λ two three worth.
            let both = both_given worth in
            let was = k.given two three worth in
            let before = ap (weigh worth) (before_next (lists_by old.plan old.log) crew.round crew.at round at item next) in
            omega (arith, both, was, before, weigh_append worth (items_before crew.round crew.at (lists_by old.plan old.log)) (item ∷ []));
      })

  pub assigned_left : (new : State) → new ≡ assigned → old.crawl ≡ true → is_killed a old.log ≡ false → is_done_in a new ≡ false
  assigned_left new same crawls alive = subst (λ (s : State). is_done_in a s ≡ false) (sym same) (busy_left a assigned item crawls worker alive (set_here old.tasks (a - 18) None (Some item) is))

-- ---- before the first line
pub begins : (s : State) → s ≡ opened_for true s.plan → CanCrawl s.plan → IsCrew first_crew s
begins s e can =
    subst (λ (t : State). IsCrew first_crew t) (sym e)
    (record {
      placed = record {
        crawls = refl;
        can = can;
        there = λ a worker. (None, there a worker);
        place = record { few = omega arith; within = omega arith };
        second = refl;
        third = refl;
      };
      given = λ two three worth. refl;
    })
  where
    none_at : (i : ℕ) → i ≤ 1 → slice_get {X = Option Item} (None ∷ None ∷ []) i ≡ Some None
    none_at zero few = refl
    none_at (suc zero) few = refl
    none_at (suc (suc i)) few = absurd (omega (arith, few))

    there : (a : ℕ) → IsWorker a → slice_get {X = Option Item} (None ∷ None ∷ []) (a - 18) ≡ Some None
    there a worker = let high = worker.1 in none_at (a - 18) (omega (arith, high))

-- ---- at the end
-- where both live and are done, and all items were given, each was a task as often as it stands in the lists
pub tried_all : (s : State) (crew : Crew) → IsCrew crew s → is_done_in 18 s ≡ true → is_done_in 19 s ≡ true → is_killed 18 s.log ≡ false → is_killed 19 s.log ≡ false → IsLast (lists_by s.plan s.log) crew.round crew.at → IsTried s.plan s.log
tried_all s crew k second third second_lives third_lives last = λ worth.
    let left : weigh worth (tasks_given 18 s) ≡ weigh worth (tasks_by 18 s.log) = ended_all 18 worth (idle_of 18 s crew k.placed (omega arith, omega arith) second_lives second) in
    let right : weigh worth (tasks_given 19 s) ≡ weigh worth (tasks_by 19 s.log) = ended_all 19 worth (idle_of 19 s crew k.placed (omega arith, omega arith) third_lives third) in
    let given = k.given second_lives third_lives worth in
    let all = ap (weigh worth) last in
    omega (arith, left, right, given, all, weigh_given worth (lists_by s.plan s.log), sum_is worth (tasks_by 18 s.log), sum_is worth (tasks_by 19 s.log), sum_is worth (items_of (lists_by s.plan s.log)))
  where
    ended_all : (a : ℕ) (worth : Item → ℕ) → slice_get s.tasks (a - 18) ≡ Some None → weigh worth (tasks_given a s) ≡ weigh worth (tasks_by a s.log)
    ended_all a worth is = ap (λ (task : Option Item). weigh worth (with_item task (tasks_by a s.log))) (task_is a s None is)
