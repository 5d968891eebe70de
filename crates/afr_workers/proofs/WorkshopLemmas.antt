-- What each step under the lock leaves of what was put, taken and given.
use Rattle.std.proofs.Common.{◌≡◌, ◌≢◌, ◌∙◌, ◌⊎◌, ℕ, zero, suc, ◌+◌, ◌<◌, ◌≤◌, ◌==◌, ◌||◌, ◌&&◌, ◌++◌, not, nat_le, nat_lt, Bool, true, false, List, [], ◌∷◌, Option, None, Some, if◌then◌else◌, inl, inr, refl, sym, ap, append_assoc, arith, subst, length, map, replicate, slice_get}
use Rattle.std.proofs.lemmas.Bool.Decides.{eqb_tells, nat_tests}
use Rattle.std.proofs.lemmas.List.{append-nil}
use Rattle.std.proofs.lemmas.Bool.{or_right}
use Rattle.afr_base.specs.declared.ids.ActorId.{ActorId}
use Rattle.afr_crowd.specs.declared.held.Held.{Held}
use Rattle.afr_lines.specs.Work.{ended, events_made, is_killed, is_of, kills}
use Rattle.afr_lines.specs.declared.line.Event.{Event as OfEvent}
use Rattle.afr_lines.specs.declared.line.Line.{Line}
use Rattle.afr_lines.specs.declared.line.Line.TheVariants.{Ask, Begin, End, Event, HealBegin, HealEnd}
use Rattle.afr_model.specs.Actors.{works_of}
use Rattle.afr_model.specs.Crawl.{IsWorker, lists_by}
use Rattle.afr_plan.specs.declared.plan.Plan.{Plan}
use Rattle.afr_tasks.specs.Exchange.{Exchange, with_taken}
use Rattle.afr_tasks.specs.declared.rule.Task.{Task}
use Rattle.afr_tasks.specs.declared.rule.Task.TheVariants.{Heal, Stop}
use Rattle.afr_tasks.specs.declared.tasks.Worker.{Worker}
use Rattle.afr_tasks.specs.declared.tasks.Worker.TheVariants.{Second, Third}
use Rattle.afr_volume.specs.Going.{IsHappening, Later, Still}
use Rattle.afr_volume.specs.State.{State}
use Rattle.afr_volume.specs.Tasks.{has_task, is_done_in}
use Rattle.afr_volume.specs.Turning.{AddsLine, Comes, Turns, due_at, due_of, if_due}
use Rattle.afr_volume.specs.declared.turned.Turned.{Turned}
use Rattle.afr_volume.specs.declared.turned.Turned.TheVariants.{Ended, Full, Moved, Waits}
use Rattle.afr_workers.specs.Crew.{IsPlaced, tasks_given}
use Rattle.afr_workers.specs.Cursor.{ComesNext, IsLast, IsPlace, Item, Lists, items_before}
use Rattle.afr_workers.specs.Workshop.{Given, GivesItem, HasPut, HasTaken, HasTurned, IsKept, IsMerge, IsOver, IsShop, MayPass, Passed, TakesTask, TookItem, TookNothing, TookStop, heal_of, items_among, number_of, tasks_put, with_task}
use Rattle.afr_workers.specs.declared.crew.Crew.{Crew}
use Rattle.afr_workers.specs.declared.workshop.Rests.{Rests}
use Rattle.afr_workers.specs.declared.workshop.Workshop.{Workshop}
use Rattle.afr_workers.proofs.CrewLemmas.{Proceeds, assigned_other, assigned_own, assigned_placed, event_proceeds, line_placed, line_proceeds, next_placed, still_lives}
use Rattle.afr_workers.proofs.PlaceLemmas.{Stays, before_next, before_stays, place_stays}

-- ---- lists of tasks
map_push : (items : List Item) (item : Item) → map heal_of (items ++ item ∷ []) ≡ map heal_of items ++ heal_of item ∷ []
map_push [] item = refl
map_push (x ∷ items) item = ap (λ (tasks : List Task). heal_of x ∷ tasks) (map_push items item)

put_item : (items : List Item) (item : Item) → tasks_put items 0 ++ heal_of item ∷ [] ≡ tasks_put (items ++ item ∷ []) 0
put_item items item = ap (λ (tasks : List Task). tasks ++ heal_of item ∷ []) (append-nil (map heal_of items)) ∙ sym (map_push items item) ∙ sym (append-nil (map heal_of (items ++ item ∷ [])))

one_stop_more : (stops : ℕ) → replicate stops Stop ++ Stop ∷ [] ≡ replicate (suc stops) Stop
one_stop_more zero = refl
one_stop_more (suc stops) = ap (λ (tasks : List Task). Stop ∷ tasks) (one_stop_more stops)

put_stop : (items : List Item) (stops : ℕ) → tasks_put items stops ++ Stop ∷ [] ≡ tasks_put items (suc stops)
put_stop items stops = append_assoc (map heal_of items) (replicate stops Stop) (Stop ∷ []) ∙ ap (λ (tasks : List Task). map heal_of items ++ tasks) (one_stop_more stops)

among_item : (tasks : List Task) (item : Item) → items_among (tasks ++ heal_of item ∷ []) ≡ items_among tasks ++ item ∷ []
among_item [] item = refl
among_item (Heal gfid what ∷ tasks) item = ap (λ (items : List Item). (gfid, what) ∷ items) (among_item tasks item)
among_item (Stop ∷ tasks) item = among_item tasks item

among_stop : (tasks : List Task) → items_among (tasks ++ Stop ∷ []) ≡ items_among tasks
among_stop [] = refl
among_stop (Heal gfid what ∷ tasks) = ap (λ (items : List Item). (gfid, what) ∷ items) (among_stop tasks)
among_stop (Stop ∷ tasks) = among_stop tasks

-- ---- what lasts
-- who was killed and a full log stay so, and a crawler that is over is given no list more
pub record Lasts (old new : State) : Type 0 where
  pub dead : (c : ℕ) → is_killed c old.log ≡ true → is_killed c new.log ≡ true
  pub full : length old.log ≡ old.plan.turns → length new.log ≡ new.plan.turns
  pub over : IsOver old → IsOver new × (lists_by new.plan new.log ≡ lists_by old.plan old.log)

-- an event comes where the log has room
due_room : (p : Plan) (log : List Line) (event : OfEvent) → due_at p log ≡ Some event → length log < p.turns
due_room p log event due = by (nat_lt (length log) p.turns) refl due
  where
    by : (room : Bool) → nat_lt (length log) p.turns ≡ room → (if room then if_due (length log) (slice_get p.events (events_made log)) else None) ≡ Some event → length log < p.turns
    by true e k = grind (arith, nat_tests, e)
    by false e k = absurd (cc k)

event_lasts : (old new : State) → Comes old new → Lasts old new
event_lasts old new h =
    let room = due_room old.plan old.log h.event h.is_due in
    subst (λ (s : State). Lasts old s) (sym h.added)
    (record {
      dead = λ c k. or_right (kills c (Event h.event)) (is_killed c old.log) k;
      full = λ full. absurd (omega (arith, full, room));
      over = over room;
    })
  where
    wider : (x y z : Bool) → (y || z) ≡ true → ((x || y) || z) ≡ true
    wider true y z e = refl
    wider false y z e = e

    over : length old.log < old.plan.turns → IsOver old → IsOver (record old { log = Event h.event ∷ old.log }) × (lists_by old.plan (Event h.event ∷ old.log) ≡ lists_by old.plan old.log)
    over room (inl done) = (inl (wider (kills 17 (Event h.event)) (is_killed 17 old.log) (not (has_task 17 old) && nat_le (works_of old.plan 17) (ended 17 old.log)) done), refl)
    over room (inr full) = absurd (omega (arith, full, room))

-- a line of another ends no work of an actor, and no round of the crawler
differ : (a c : ℕ) → a ≢ c → (a == c) ≡ false
differ a c apart = grind (arith, nat_tests, apart)

ended_beside : (a c : ℕ) (line : Line) (log : List Line) → is_of a line ≡ true → a ≢ c → ended c (line ∷ log) ≡ ended c log
ended_beside a c (End x said) log own apart = (let same : x.0 ≡ a = grind (arith, nat_tests, own) in let other : (x.0 == c) ≡ false = rw same (differ a c apart) in rw other refl)
ended_beside a c (Ask x b asked told took) log own apart = refl
ended_beside a c (Begin x change) log own apart = refl
ended_beside a c (HealBegin x g kind) log own apart = refl
ended_beside a c (HealEnd x g kind said) log own apart = refl
ended_beside a c (Event event) log own apart = refl

lists_beside : (p : Plan) (a : ℕ) (line : Line) (log : List Line) → is_of a line ≡ true → a ≢ 17 → lists_by p (line ∷ log) ≡ lists_by p log
lists_beside p a (End x said) log own apart = (let same : x.0 ≡ a = grind (arith, nat_tests, own) in let other : (x.0 == 17) ≡ false = rw same (differ a 17 apart) in rw other refl)
lists_beside p a (Ask x b asked told took) log own apart = refl
lists_beside p a (Begin x change) log own apart = refl
lists_beside p a (HealBegin x g kind) log own apart = refl
lists_beside p a (HealEnd x g kind said) log own apart = refl
lists_beside p a (Event event) log own apart = refl

-- whether the crawler is done, by what it rests on
abbrev done_by : Bool → Bool → ℕ → ℕ → Bool
done_by killed crawl works done = killed || (not (crawl && false) && nat_le works done)

module _ (a : ActorId) (old new : State) (waits : Option ActorId) (h : AddsLine a old waits new) (room : length new.log ≤ new.plan.turns) where
  not_full : length old.log ≡ old.plan.turns → ⊥
  not_full full = omega (arith, full, room, ap length h.added, ap (λ (p : Plan). p.turns) h.plan)

  done_beside : a.0 ≢ 17 → is_done_in 17 new ≡ is_done_in 17 old
  done_beside apart =
      let killed : is_killed 17 new.log ≡ is_killed 17 old.log = ap (is_killed 17) h.added ∙ still_lives a.0 17 h.line old.log h.own in
      let count : ended 17 new.log ≡ ended 17 old.log = ap (ended 17) h.added ∙ ended_beside a.0 17 h.line old.log h.own apart in
      ap (λ (dead : Bool). done_by dead new.crawl (works_of new.plan 17) (ended 17 new.log)) killed
      ∙ ap (λ (crawl : Bool). done_by (is_killed 17 old.log) crawl (works_of new.plan 17) (ended 17 new.log)) h.crawl
      ∙ ap (λ (p : Plan). done_by (is_killed 17 old.log) old.crawl (works_of p 17) (ended 17 new.log)) h.plan
      ∙ ap (λ (n : ℕ). done_by (is_killed 17 old.log) old.crawl (works_of old.plan 17) n) count

  line_over : IsOver old → IsOver new × (lists_by new.plan new.log ≡ lists_by old.plan old.log)
  line_over (inr full) = absurd (not_full full)
  line_over (inl done) = by (eqb_tells a.0 17)
    where
      by : ((a.0 == 17) ≡ true) × (a.0 ≡ 17) ⊎ ((a.0 == 17) ≡ false) × (a.0 ≢ 17) → IsOver new × (lists_by new.plan new.log ≡ lists_by old.plan old.log)
      by (inl e) = absurd (let left : is_done_in 17 old ≡ false = subst (λ (c : ℕ). is_done_in c old ≡ false) e.1 h.left in cc (sym done ∙ left))
      by (inr e) = (inl (done_beside e.1 ∙ done), ap (λ (p : Plan). lists_by p new.log) h.plan ∙ ap (lists_by old.plan) h.added ∙ lists_beside old.plan a.0 h.line old.log h.own e.1)

  line_lasts : Lasts old new
  line_lasts = record {
    dead = λ c k. ap (is_killed c) h.added ∙ still_lives a.0 c h.line old.log h.own ∙ k;
    full = λ full. absurd (not_full full);
    over = line_over;
  }

-- what a turn leaves
record Onward (crew : Crew) (old new : State) : Type 0 where
  placed : IsPlaced crew new
  proceeds : Proceeds old new
  lasts : Lasts old new
  plan : new.plan ≡ old.plan

onward_nowhere : (crew : Crew) (s : State) → IsPlaced crew s → Onward crew s s
onward_nowhere crew s k = record {
  placed = k;
  proceeds = record { lists = Stays; given = λ c worker. refl; lives = λ c alive. alive };
  lasts = record { dead = λ c dead. dead; full = λ full. full; over = λ over. (over, refl) };
  plan = refl;
}

onward_same : (crew : Crew) (old new : State) → IsPlaced crew old → new ≡ old → Onward crew old new
onward_same crew old new k e = subst (λ (s : State). Onward crew old s) (sym e) (onward_nowhere crew old k)

onward_line : (a : ActorId) (crew : Crew) (old new : State) (waits : Option ActorId) → IsPlaced crew old → AddsLine a old waits new → length new.log ≤ new.plan.turns → Onward crew old new
onward_line a crew old new waits k h room = record {
  placed = line_placed a old new waits h crew k;
  proceeds = line_proceeds a old new waits h crew k;
  lasts = line_lasts a old new waits h room;
  plan = h.plan;
}

turned_onward : (a : ActorId) (crew : Crew) (old new : State) → IsPlaced crew old → HasTurned a old new → Onward crew old new
turned_onward a crew old new k (inl e) = onward_same crew old new k e
turned_onward a crew old new k (inr t) = by t.0 t.1 t.2
  where
    by : (turned : Turned) → Turns a old turned new → length new.log ≤ new.plan.turns → Onward crew old new
    by Moved h room = onward_line a crew old new None k h room
    by (Waits owner) h room = onward_line a crew old new (Some owner) k h room
    by Ended h room = onward_same crew old new k h.1
    by Full h room = onward_same crew old new k h.2

-- ---- the three facts stay
put_stays : (old new : State) (round at stops : ℕ) (tasks : List Task) → Proceeds old new → Lasts old new → IsPlace (lists_by old.plan old.log) round at → HasPut old round at stops tasks → HasPut new round at stops tasks
put_stays old new round at stops tasks p l place h = record {
  put = h.put ∙ ap (λ (items : List Item). tasks_put items stops) (sym (before_stays _ _ round at p.lists place));
  few = h.few;
  whole = λ some.
      let w = h.whole some in
      let o = l.over w.1 in
      (subst (λ (lists : Lists). IsLast lists round at) (sym o.1) w.0, o.0);
}

may_stay : (a : ℕ) (old new : State) (before after : Bool) → Lasts old new → (before ≡ true → after ≡ true) → MayPass a old before → MayPass a new after
may_stay a old new before after l noted (inl dead) = inl (l.dead a dead)
may_stay a old new before after l noted (inr (inl full)) = inr (inl (l.full full))
may_stay a old new before after l noted (inr (inr no_memory)) = inr (inr (noted no_memory))

cause_stays : (a : ℕ) (old new : State) (before after : Bool) (passed : List Item) → Lasts old new → (before ≡ true → after ≡ true) → (passed ≡ []) ⊎ MayPass a old before → (passed ≡ []) ⊎ MayPass a new after
cause_stays a old new before after passed l noted (inl none) = inl none
cause_stays a old new before after passed l noted (inr may) = inr (may_stay a old new before after l noted may)

taken_stays : (a : ℕ) (old new : State) (before after : Bool) (tasks : List Task) → tasks_given a new ≡ tasks_given a old → Lasts old new → (before ≡ true → after ≡ true) → HasTaken a old before tasks → HasTaken a new after tasks
taken_stays a old new before after tasks same l noted h = record {
  passed = h.passed;
  merged = subst (λ (given : List Item). IsMerge (items_among tasks) given h.passed) (sym same) h.merged;
  cause = cause_stays a old new before after h.passed l noted h.cause;
}

second : IsWorker 18
second = (omega arith, omega arith)

third : IsWorker 19
third = (omega arith, omega arith)

-- ---- a turn
pub shop_turned : (x : Workshop) (a : ActorId) (s : State) (after : Bool) (held : Held) → HasTurned a x.volume s → (x.no_memory ≡ true → after ≡ true) → IsShop x → IsKept x (record x { volume = s; no_memory = after; held = held })
shop_turned x a s after held turned noted k =
    let o = turned_onward a x.crew x.volume s k.placed turned in
    record {
      shop = record {
        placed = o.placed;
        puts = put_stays x.volume s x.crew.round x.crew.at x.stops x.tasks.put o.proceeds o.lasts k.placed.place k.puts;
        second = taken_stays 18 x.volume s x.no_memory after x.tasks.second (o.proceeds.given 18 second) o.lasts noted k.second;
        third = taken_stays 19 x.volume s x.no_memory after x.tasks.third (o.proceeds.given 19 third) o.lasts noted k.third;
      };
      plan = o.plan;
    }

-- ---- events
happened_place : (old new : State) (round at : ℕ) → IsHappening old new → IsPlace (lists_by old.plan old.log) round at → IsPlace (lists_by new.plan new.log) round at
happened_place old _ round at Still place = place
happened_place old new round at (Later mid _ h comes) place = place_stays _ _ round at (event_proceeds mid new comes).lists (happened_place old mid round at h place)

happened_put : (old new : State) (round at stops : ℕ) (tasks : List Task) → IsHappening old new → IsPlace (lists_by old.plan old.log) round at → HasPut old round at stops tasks → HasPut new round at stops tasks
happened_put old _ round at stops tasks Still place k = k
happened_put old new round at stops tasks (Later mid _ h comes) place k = put_stays mid new round at stops tasks (event_proceeds mid new comes) (event_lasts mid new comes) (happened_place old mid round at h place) (happened_put old mid round at stops tasks h place k)

happened_taken : (a : ℕ) (old new : State) (before : Bool) (tasks : List Task) → IsWorker a → IsHappening old new → HasTaken a old before tasks → HasTaken a new before tasks
happened_taken a old _ before tasks worker Still k = k
happened_taken a old new before tasks worker (Later mid _ h comes) k = taken_stays a mid new before before tasks ((event_proceeds mid new comes).given a worker) (event_lasts mid new comes) (λ e. e) (happened_taken a old mid before tasks worker h k)

happened_plan : (old new : State) → IsHappening old new → new.plan ≡ old.plan
happened_plan old _ Still = refl
happened_plan old new (Later mid _ h comes) = ap (λ (s : State). s.plan) comes.added ∙ happened_plan old mid h

taken_noted : (a : ℕ) (s : State) (before after : Bool) (tasks : List Task) → (before ≡ true → after ≡ true) → HasTaken a s before tasks → HasTaken a s after tasks
taken_noted a s before after tasks noted h = taken_stays a s s before after tasks refl (record { dead = λ c dead. dead; full = λ full. full; over = λ over. (over, refl) }) noted h

pub shop_comes : (x : Workshop) (s : State) (crew : Crew) (after : Bool) (held : Held) → IsHappening x.volume s → IsPlaced crew s → crew.round ≡ x.crew.round → crew.at ≡ x.crew.at → (x.no_memory ≡ true → after ≡ true) → IsShop x
    → IsKept x (record x { volume = s; crew = crew; no_memory = after; held = held })
shop_comes x s crew after held happens placed round at noted k = record {
  shop = record {
    placed = placed;
    puts =
        subst (λ (n : ℕ). HasPut s n crew.at x.stops x.tasks.put) (sym round)
        (subst (λ (n : ℕ). HasPut s x.crew.round n x.stops x.tasks.put) (sym at) (happened_put x.volume s x.crew.round x.crew.at x.stops x.tasks.put happens k.placed.place k.puts));
    second = taken_noted 18 s x.no_memory after x.tasks.second noted (happened_taken 18 x.volume s x.no_memory x.tasks.second second happens k.second);
    third = taken_noted 19 s x.no_memory after x.tasks.third noted (happened_taken 19 x.volume s x.no_memory x.tasks.third third happens k.third);
  };
  plan = happened_plan x.volume s happens;
}

-- ---- the crawler puts
pub shop_put : (x : Workshop) (round at : ℕ) (item : Item) → ComesNext (lists_by x.volume.plan x.volume.log) x.crew.round x.crew.at round at item → x.stops ≡ 0 → IsShop x
    → IsKept x (record x { tasks = record x.tasks { put = x.tasks.put ++ heal_of item ∷ [] }; crew = record x.crew { round = round; at = at + 1 } })
shop_put x round at item next none k =
    let lists : Lists = lists_by x.volume.plan x.volume.log in
    let items : List Item = items_before x.crew.round x.crew.at lists in
    record {
      shop = record {
        placed = next_placed x.crew x.volume round at item next k.placed;
        puts = record {
          put =
              ap (λ (tasks : List Task). tasks ++ heal_of item ∷ []) k.puts.put
              ∙ ap (λ (stops : ℕ). tasks_put items stops ++ heal_of item ∷ []) none
              ∙ put_item items item
              ∙ ap (λ (all : List Item). tasks_put all 0) (sym (before_next lists x.crew.round x.crew.at round at item next))
              ∙ ap (λ (stops : ℕ). tasks_put (items_before round (at + 1) lists) stops) (sym none);
          few = k.puts.few;
          whole = λ some. absurd (omega (arith, some, none));
        };
        second = k.second;
        third = k.third;
      };
      plan = refl;
    }

pub shop_stop : (x : Workshop) → IsLast (lists_by x.volume.plan x.volume.log) x.crew.round x.crew.at → IsOver x.volume → x.stops < 2 → IsShop x → IsKept x (record x { tasks = record x.tasks { put = x.tasks.put ++ Stop ∷ [] }; stops = x.stops + 1 })
shop_stop x last over few k =
    let items : List Item = items_before x.crew.round x.crew.at (lists_by x.volume.plan x.volume.log) in
    let next : x.stops + 1 ≡ suc x.stops = omega arith in
    record {
      shop = record {
        placed = k.placed;
        puts = record {
          put = ap (λ (tasks : List Task). tasks ++ Stop ∷ []) k.puts.put ∙ put_stop items x.stops ∙ ap (tasks_put items) (sym next);
          few = omega (arith, few);
          whole = λ some. (last, over);
        };
        second = k.second;
        third = k.third;
      };
      plan = refl;
    }

-- ---- where the queue may refuse
pub kept_here : (x : Workshop) → IsShop x → IsKept x x
kept_here x k = record { shop = k; plan = refl }

pub kept_then : (x y z : Workshop) → IsKept x y → IsKept y z → IsKept x z
kept_then x y z f g = record { shop = g.shop; plan = g.plan ∙ f.plan }

pub shop_puts : (x : Workshop) (tasks : Exchange) (crew : Crew) (round at : ℕ) (item : Item) → ComesNext (lists_by x.volume.plan x.volume.log) x.crew.round x.crew.at round at item → x.stops ≡ 0
    → ((tasks ≡ record x.tasks { put = x.tasks.put ++ heal_of item ∷ [] }) × (crew ≡ record x.crew { round = round; at = at + 1 })) ⊎ ((tasks ≡ x.tasks) × (crew ≡ x.crew))
    → IsShop x → IsKept x (record x { tasks = tasks; crew = crew })
shop_puts x tasks crew round at item next none (inl e) k =
    subst (λ (t : Exchange). IsKept x (record x { tasks = t; crew = crew })) (sym e.0)
    (subst (λ (c : Crew). IsKept x (record x { tasks = record x.tasks { put = x.tasks.put ++ heal_of item ∷ [] }; crew = c })) (sym e.1) (shop_put x round at item next none k))
shop_puts x tasks crew round at item next none (inr e) k =
    subst (λ (t : Exchange). IsKept x (record x { tasks = t; crew = crew })) (sym e.0)
    (subst (λ (c : Crew). IsKept x (record x { tasks = x.tasks; crew = c })) (sym e.1) (kept_here x k))

pub shop_stops : (x : Workshop) (tasks : Exchange) (stops : ℕ) → IsLast (lists_by x.volume.plan x.volume.log) x.crew.round x.crew.at → IsOver x.volume → x.stops < 2
    → ((tasks ≡ record x.tasks { put = x.tasks.put ++ Stop ∷ [] }) × (stops ≡ x.stops + 1)) ⊎ ((tasks ≡ x.tasks) × (stops ≡ x.stops))
    → IsShop x → IsKept x (record x { tasks = tasks; stops = stops })
shop_stops x tasks stops last over few (inl e) k =
    subst (λ (t : Exchange). IsKept x (record x { tasks = t; stops = stops })) (sym e.0)
    (subst (λ (n : ℕ). IsKept x (record x { tasks = record x.tasks { put = x.tasks.put ++ Stop ∷ [] }; stops = n })) (sym e.1) (shop_stop x last over few k))
shop_stops x tasks stops last over few (inr e) k =
    subst (λ (t : Exchange). IsKept x (record x { tasks = t; stops = stops })) (sym e.0)
    (subst (λ (n : ℕ). IsKept x (record x { tasks = x.tasks; stops = n })) (sym e.1) (kept_here x k))

-- ---- a worker takes
taken_stop : (a : ℕ) (s : State) (no_memory : Bool) (tasks : List Task) → HasTaken a s no_memory tasks → HasTaken a s no_memory (tasks ++ Stop ∷ [])
taken_stop a s no_memory tasks h = record { passed = h.passed; merged = subst (λ (items : List Item). IsMerge items (tasks_given a s) h.passed) (sym (among_stop tasks)) h.merged; cause = h.cause }

-- a task more leaves all else
task_lasts : (a : ℕ) (item : Item) (s : State) → Lasts s (with_task a item s)
task_lasts a item s = record { dead = λ c dead. dead; full = λ full. full; over = λ over. (over, refl) }

gives_lasts : (a : ℕ) (item : Item) (old new : State) (no_memory : Bool) → GivesItem a item old new no_memory → Lasts old new
gives_lasts a item old new no_memory (inl g) = subst (λ (s : State). Lasts old s) (sym g.0) (task_lasts a item old)
gives_lasts a item old new no_memory (inr g) = subst (λ (s : State). Lasts old s) (sym g.0) (record { dead = λ c dead. dead; full = λ full. full; over = λ over. (over, refl) })

gives_plan : (a : ℕ) (item : Item) (old new : State) (no_memory : Bool) → GivesItem a item old new no_memory → new.plan ≡ old.plan
gives_plan a item old new no_memory (inl g) = ap (λ (s : State). s.plan) g.0
gives_plan a item old new no_memory (inr g) = ap (λ (s : State). s.plan) g.0

gives_put : (a : ℕ) (item : Item) (old new : State) (no_memory : Bool) (round at stops : ℕ) (tasks : List Task) → GivesItem a item old new no_memory → HasPut old round at stops tasks → HasPut new round at stops tasks
gives_put a item old new no_memory round at stops tasks (inl g) h = subst (λ (s : State). HasPut s round at stops tasks) (sym g.0) (record { put = h.put; few = h.few; whole = h.whole })
gives_put a item old new no_memory round at stops tasks (inr g) h = subst (λ (s : State). HasPut s round at stops tasks) (sym g.0) h

gives_placed : (a : ℕ) (item : Item) (old new : State) (no_memory : Bool) (crew : Crew) → IsWorker a → GivesItem a item old new no_memory → IsPlaced crew old → IsPlaced crew new
gives_placed a item old new no_memory crew worker (inl g) k = assigned_placed a old item worker g.1 new crew g.0 k
gives_placed a item old new no_memory crew worker (inr g) k = subst (IsPlaced crew) (sym g.0) k

-- the other worker has what it had
gives_other : (a c : ℕ) (item : Item) (old new : State) (no_memory : Bool) → IsWorker a → IsWorker c → a ≢ c → GivesItem a item old new no_memory → tasks_given c new ≡ tasks_given c old
gives_other a c item old new no_memory worker other apart (inl g) = ap (tasks_given c) g.0 ∙ assigned_other a old item worker g.1 c other apart
gives_other a c item old new no_memory worker other apart (inr g) = ap (tasks_given c) g.0

-- and it has one task more, or passed over the item
taken_item : (a : ℕ) (item : Item) (old new : State) (before after : Bool) (tasks : List Task) → IsWorker a → (before ≡ true → after ≡ true) → GivesItem a item old new after → HasTaken a old before tasks → HasTaken a new after (tasks ++ heal_of item ∷ [])
taken_item a item old new before after tasks worker noted (inl g) h = record {
  passed = h.passed;
  merged =
      subst (λ (given : List Item). IsMerge (items_among (tasks ++ heal_of item ∷ [])) given h.passed) (sym (ap (tasks_given a) g.0 ∙ assigned_own a old item worker g.1))
      (Given (items_among tasks) (tasks_given a old) h.passed (items_among (tasks ++ heal_of item ∷ [])) item h.merged (among_item tasks item));
  cause = cause_stays a old new before after h.passed (gives_lasts a item old new after (inl g)) noted h.cause;
}
taken_item a item old new before after tasks worker noted (inr g) h = record {
  passed = item ∷ h.passed;
  merged =
      Passed (items_among tasks) (tasks_given a new) h.passed (items_among (tasks ++ heal_of item ∷ [])) item
      (subst (λ (given : List Item). IsMerge (items_among tasks) given h.passed) (sym (ap (tasks_given a) g.0)) h.merged)
      (among_item tasks item);
  cause = inr g.1;
}

module _ (x : Workshop) (s : State) (after : Bool) (noted : x.no_memory ≡ true → after ≡ true) (k : IsShop x) where
  -- nothing was taken, but memory may have been wanting
  shop_as_it_was : s ≡ x.volume → IsKept x (record x { volume = s; no_memory = after })
  shop_as_it_was same =
      subst (λ (t : State). IsKept x (record x { volume = t; no_memory = after })) (sym same)
      (record {
        shop = record { placed = k.placed; puts = k.puts; second = taken_noted 18 x.volume x.no_memory after x.tasks.second noted k.second; third = taken_noted 19 x.volume x.no_memory after x.tasks.third noted k.third };
        plan = refl;
      })

  shop_took_stop : (worker : Worker) → s ≡ x.volume → IsKept x (record x { volume = s; tasks = with_taken worker Stop x.tasks; no_memory = after })
  shop_took_stop Second same =
      subst (λ (t : State). IsKept x (record x { volume = t; tasks = with_taken Second Stop x.tasks; no_memory = after })) (sym same)
      (record {
        shop = record { placed = k.placed; puts = k.puts; second = taken_stop 18 x.volume after x.tasks.second (taken_noted 18 x.volume x.no_memory after x.tasks.second noted k.second); third = taken_noted 19 x.volume x.no_memory after x.tasks.third noted k.third };
        plan = refl;
      })
  shop_took_stop Third same =
      subst (λ (t : State). IsKept x (record x { volume = t; tasks = with_taken Third Stop x.tasks; no_memory = after })) (sym same)
      (record {
        shop = record { placed = k.placed; puts = k.puts; second = taken_noted 18 x.volume x.no_memory after x.tasks.second noted k.second; third = taken_stop 19 x.volume after x.tasks.third (taken_noted 19 x.volume x.no_memory after x.tasks.third noted k.third) };
        plan = refl;
      })

  shop_took_item : (worker : Worker) (item : Item) → GivesItem (number_of worker) item x.volume s after → IsKept x (record x { volume = s; tasks = with_taken worker (heal_of item) x.tasks; no_memory = after })
  shop_took_item Second item g = record {
    shop = record {
      placed = gives_placed 18 item x.volume s after x.crew second g k.placed;
      puts = gives_put 18 item x.volume s after x.crew.round x.crew.at x.stops x.tasks.put g k.puts;
      second = taken_item 18 item x.volume s x.no_memory after x.tasks.second second noted g k.second;
      third = taken_stays 19 x.volume s x.no_memory after x.tasks.third (gives_other 18 19 item x.volume s after second third (λ e. absurd (omega (arith, e))) g) (gives_lasts 18 item x.volume s after g) noted k.third;
    };
    plan = gives_plan 18 item x.volume s after g;
  }
  shop_took_item Third item g = record {
    shop = record {
      placed = gives_placed 19 item x.volume s after x.crew third g k.placed;
      puts = gives_put 19 item x.volume s after x.crew.round x.crew.at x.stops x.tasks.put g k.puts;
      second = taken_stays 18 x.volume s x.no_memory after x.tasks.second (gives_other 19 18 item x.volume s after third second (λ e. absurd (omega (arith, e))) g) (gives_lasts 19 item x.volume s after g) noted k.second;
      third = taken_item 19 item x.volume s x.no_memory after x.tasks.third third noted g k.third;
    };
    plan = gives_plan 19 item x.volume s after g;
  }

pub shop_took : (x : Workshop) (s : State) (tasks : Exchange) (after : Bool) (worker : Worker) → TakesTask worker x.volume s after x.tasks tasks → (x.no_memory ≡ true → after ≡ true) → IsShop x → IsKept x (record x { volume = s; tasks = tasks; no_memory = after })
shop_took x s _ after worker (TookNothing same) noted k = shop_as_it_was x s after noted k same
shop_took x s _ after worker (TookStop same) noted k = shop_took_stop x s after noted k worker same
shop_took x s _ after worker (TookItem item g) noted k = shop_took_item x s after noted k worker item g

-- a task leaves the events that are due
pub took_due : (worker : Worker) (old new : State) (no_memory : Bool) (before tasks : Exchange) → TakesTask worker old new no_memory before tasks → due_of old ≡ None → due_of new ≡ None
took_due worker old new no_memory before _ (TookNothing same) none = subst (λ (s : State). due_of s ≡ None) (sym same) none
took_due worker old new no_memory before _ (TookStop same) none = subst (λ (s : State). due_of s ≡ None) (sym same) none
took_due worker old new no_memory before _ (TookItem item (inl g)) none = subst (λ (s : State). due_of s ≡ None) (sym g.0) none
took_due worker old new no_memory before _ (TookItem item (inr g)) none = subst (λ (s : State). due_of s ≡ None) (sym g.0) none

pub is_worker : (worker : Worker) (a : ℕ) → a ≡ number_of worker → IsWorker a
is_worker Second a e = (omega (arith, e), omega (arith, e))
is_worker Third a e = (omega (arith, e), omega (arith, e))

-- who rests is beside the facts
pub shop_rested : (x : Workshop) (rests : Rests) → IsShop x → IsKept x (record x { rests = rests })
shop_rested x rests k = record { shop = record { placed = k.placed; puts = k.puts; second = k.second; third = k.third }; plan = refl }

-- so is that some actor has no thread
pub shop_short : (x : Workshop) (short : Bool) → IsShop x → IsShop (record x { is_short = short })
shop_short x short k = record { placed = k.placed; puts = k.puts; second = k.second; third = k.third }
