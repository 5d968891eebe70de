-- Turns of a crawl, one after the other, and the pass that added no line.
use Rattle.std.proofs.Common.{◌≡◌, ◌∙◌, ℕ, zero, suc, ◌+◌, ◌-◌, ◌<◌, ◌≤◌, ◌⊎◌, nat_lt, Bool, true, false, List, [], ◌∷◌, None, Some, Result, Ok, Err, inl, inr, refl, sym, ap, arith, subst, length}
use Rattle.std.specs.Prelude.{OnOk}
use Rattle.std.proofs.lemmas.Bool.Decides.{nat_tests}
use Rattle.afr_base.specs.declared.ids.ActorId.{ActorId}
use Rattle.afr_lines.specs.Work.{is_killed, is_of, work}
use Rattle.afr_lines.specs.declared.line.Event.{Event as OfEvent}
use Rattle.afr_lines.specs.declared.line.Line.{Line}
use Rattle.afr_lines.specs.declared.line.Line.TheVariants.{Event}
use Rattle.afr_model.specs.Actors.{Client, Healer, IsActor}
use Rattle.afr_model.specs.Complete.{IsComplete}
use Rattle.afr_model.specs.Crawl.{CanCrawl, IsWorker, lists_by}
use Rattle.afr_plan.specs.declared.plan.Plan.{Plan}
use Rattle.afr_volume.proofs.TaskDone.{done_by_plan}
use Rattle.afr_volume.specs.Going.{AfterEvent, AfterTurn, AtFirst, ClientsRun, goes_on_after}
use Rattle.afr_volume.specs.State.{State, opened_for}
use Rattle.afr_volume.specs.Tasks.{is_done_in}
use Rattle.afr_volume.specs.Turning.{Comes, Turns, due_of}
use Rattle.afr_volume.specs.declared.turned.Turned.{Turned}
use Rattle.afr_volume.specs.declared.turned.Turned.TheVariants.{Ended, Full, Moved, Waits}
use Rattle.afr_workers.specs.Crew.{IsAtRest, IsCrawled, IsCrew, IsStill, IsTriedIn, Leads, TakesNone, noted}
use Rattle.afr_workers.specs.Cursor.{IsLast}
use Rattle.afr_workers.specs.declared.crew.Crew.{Crew}
use Rattle.afr_workers.proofs.CrewLemmas.{begins, event_kept, idle_of, line_kept, still_lives, tried_all}

-- ---- the plan stays, and the log grows
pub leads_nowhere : (s : State) → Leads s s
leads_nowhere s = record { plan = refl; grows = omega arith }

pub leads_then : (a b c : State) → Leads a b → Leads b c → Leads a c
leads_then a b c f g = record { plan = g.plan ∙ f.plan; grows = omega (arith, f.grows, g.grows) }

pub event_leads : (old new : State) → Comes old new → Leads old new
event_leads old new h = record { plan = ap (λ (s : State). s.plan) h.added; grows = omega (arith, ap (λ (s : State). length s.log) h.added) }

pub turn_leads : (a : ActorId) (old new : State) (turned : Turned) → Turns a old turned new → Leads old new
turn_leads a old new Moved h = record { plan = h.plan; grows = omega (arith, ap length h.added) }
turn_leads a old new (Waits owner) h = record { plan = h.plan; grows = omega (arith, ap length h.added) }
turn_leads a old new Ended h = rw h.1 (leads_nowhere old)
turn_leads a old new Full h = rw h.2 (leads_nowhere old)

pub same_leads : (old new : State) → new.plan ≡ old.plan → new.log ≡ old.log → Leads old new
same_leads old new plan log = record { plan = plan; grows = omega (arith, ap length log) }

-- ---- an event
-- the one that was seen to be due has come, and was noted
pub noted_is : (old new : State) (event : OfEvent) (crew after : Crew) → due_of old ≡ Some event → (h : Comes old new) → after ≡ noted event crew → noted h.event crew ≡ after
noted_is old new event crew after due h note =
    let twice : Some h.event ≡ Some event = sym h.is_due ∙ due in
    let same : h.event ≡ event = cc twice in
    ap (λ (e : OfEvent). noted e crew) same ∙ sym note

-- it adds a line
pub event_grows : (old new : State) → Comes old new → length new.log ≡ length old.log + 1
event_grows old new h = omega (arith, ap (λ (s : State). length s.log) h.added)

-- ---- nothing changes
pub still_here : (s : State) (crew : Crew) → IsStill s crew s crew
still_here s crew = record { same = refl; stays = refl }

pub still_then : (a b c : State) (x y z : Crew) → IsStill a x b y → IsStill b y c z → IsStill a x c z
still_then a b c x y z f g = record { same = g.same ∙ f.same; stays = g.stays ∙ f.stays }

-- ---- one turn
pub turn_kept : (a : ActorId) (old new : State) (turned : Turned) (crew : Crew) → Turns a old turned new → IsCrew crew old → IsCrew crew new
turn_kept a old new Moved crew h k = line_kept a old new None h crew k
turn_kept a old new (Waits owner) crew h k = line_kept a old new (Some owner) h crew k
turn_kept a old new Ended crew h k = subst (IsCrew crew) (sym h.1) k
turn_kept a old new Full crew h k = subst (IsCrew crew) (sym h.2) k

-- where the log had room and has no line more, the actor was done, and nothing has changed
pub turn_still : (a : ActorId) (old new : State) (turned : Turned) → Turns a old turned new → goes_on_after turned ≡ true → length new.log ≤ length old.log → (new ≡ old) × (is_done_in a.0 old ≡ true)
turn_still a old new Moved h on few = absurd (omega (arith, few, ap length h.added))
turn_still a old new (Waits owner) h on few = absurd (omega (arith, few, ap length h.added))
turn_still a old new Ended h on few = (h.1, h.0)
turn_still a old new Full h on few = absurd (cc on)

pub turn_full : (a : ActorId) (old new : State) (turned : Turned) → Turns a old turned new → goes_on_after turned ≡ false → length new.log ≡ new.plan.turns
turn_full a old new Moved h on = absurd (cc on)
turn_full a old new (Waits owner) h on = absurd (cc on)
turn_full a old new Ended h on = absurd (cc on)
turn_full a old new Full h on = rw h.2 h.0

-- ---- a worker that was given an item where it could, and then its turn
pub record TakesTask (a : ℕ) (old : State) (crew : Crew) (new : State) (after : Crew) : Type 0 where
  pub still : IsStill old crew new after
  pub done : is_done_in a new ≡ true
  pub none : TakesNone a new after

none_stays : (a : ℕ) (old new : State) (crew after : Crew) → IsStill old crew new after → TakesNone a old crew → TakesNone a new after
none_stays a old new crew after s k = subst (λ (t : State). TakesNone a t after) (sym s.same) (subst (λ (c : Crew). TakesNone a old c) (sym s.stays) k)

pub task_still : (a : ActorId) (old mid new : State) (crew after : Crew) (turned : Turned) → mid.log ≡ old.log → (is_done_in a.0 mid ≡ false) ⊎ (IsStill old crew mid after × TakesNone a.0 old crew) → Turns a mid turned new → goes_on_after turned ≡ true → length new.log ≤ length old.log
    → TakesTask a.0 old crew new after
task_still a old mid new crew after turned same given h on few = by given (turn_still a mid new turned h on (omega (arith, few, ap length same)))
  where
    by : (is_done_in a.0 mid ≡ false) ⊎ (IsStill old crew mid after × TakesNone a.0 old crew) → (new ≡ mid) × (is_done_in a.0 mid ≡ true) → TakesTask a.0 old crew new after
    by (inl busy) t = absurd (let done = t.1 in cc (sym done ∙ busy))
    by (inr rests) t =
        let still : IsStill old crew new after = record { same = t.0 ∙ rests.0.same; stays = rests.0.stays } in
        record { still = still; done = subst (λ (s : State). is_done_in a.0 s ≡ true) (sym t.0) t.1; none = none_stays a.0 old new crew after still rests.1 }

-- ---- actors that were found done stay so where nothing changes
pub done_stays : (a : ℕ) (old new : State) (crew after : Crew) → IsStill old crew new after → is_done_in a old ≡ true → is_done_in a new ≡ true
done_stays a old new crew after s done = subst (λ (t : State). is_done_in a t ≡ true) (sym s.same) done

pub takes_none_stays : (a : ℕ) (old new : State) (crew after : Crew) → IsStill old crew new after → TakesNone a old crew → TakesNone a new after
takes_none_stays = none_stays

-- one more of a row
pub row_more : (first : ℕ) (s : State) (i : ℕ) → ((k : ℕ) → k < i → is_done_in (first + k) s ≡ true) → is_done_in (first + i) s ≡ true → (k : ℕ) → k < i + 1 → is_done_in (first + k) s ≡ true
row_more first s i below here k small = by (nat_lt k i) refl
  where
    by : (less : Bool) → nat_lt k i ≡ less → is_done_in (first + k) s ≡ true
    by true e = below k (grind (arith, nat_tests, e))
    by false e = let same : k ≡ i = grind (arith, nat_tests, e, small) in rw same here

-- so is every actor of the plan
pub all_done : (s : State) → CanCrawl s.plan → ((k : ℕ) → k < length s.plan.clients → is_done_in (1 + k) s ≡ true) → ((k : ℕ) → k < 3 → is_done_in (17 + k) s ≡ true) → (a : ℕ) → IsActor s.plan a → is_done_in a s ≡ true
all_done s can clients healers a (Client low high) = let e : 1 + (a - 1) ≡ a = omega (arith, low) in subst (λ (c : ℕ). is_done_in c s ≡ true) e (clients (a - 1) (omega (arith, low, high)))
all_done s can clients healers a (Healer low high) = let many = can.healers in let e : 17 + (a - 17) ≡ a = omega (arith, low) in subst (λ (c : ℕ). is_done_in c s ≡ true) e (healers (a - 17) (omega (arith, low, high, many)))

pub worker_actor : (p : Plan) (a : ℕ) → CanCrawl p → IsWorker a → IsActor p a
worker_actor p a can worker = (let many = can.healers in let low = worker.0 in let high = worker.1 in Healer (omega (arith, low)) (omega (arith, many, high)))

-- ---- the end
pub crawled_of : (s : State) (crew : Crew) → IsCrew crew s → length s.log ≤ s.plan.turns → ((a : ℕ) → IsActor s.plan a → is_done_in a s ≡ true → is_killed a s.log ≡ false → work a s.log ≡ []) → (length s.log ≡ s.plan.turns) ⊎ IsAtRest s crew → IsCrawled s
crawled_of s crew k room settled (inl full) = record { complete = inl full; idle = λ open_log. absurd (omega (arith, open_log, full)) }
crawled_of s crew k room settled (inr rest) = record {
  complete = by (nat_lt (length s.log) s.plan.turns) refl;
  idle = λ open_log a worker alive. idle_of a s crew k.placed worker alive (rest.done a (worker_actor s.plan a k.placed.can worker));
}
  where
    by : (open_log : Bool) → nat_lt (length s.log) s.plan.turns ≡ open_log → IsComplete s.plan s.log
    by true e = inr (record {
      events = rest.events (grind (arith, nat_tests, e));
      done = λ a actor. done_by_plan a s (rest.done a actor);
      ended = λ a actor alive. settled a actor (rest.done a actor) alive;
    })
    by false e = inl (grind (arith, nat_tests, e, room))

pub tried_of : (s : State) (crew : Crew) → IsCrew crew s → (length s.log ≡ s.plan.turns) ⊎ IsAtRest s crew → IsTriedIn s
tried_of s crew k (inl full) = λ open_log. absurd (omega (arith, open_log, full))
tried_of s crew k (inr rest) = λ open_log second third. tried_all s crew k (rest.done 18 (worker_actor s.plan 18 k.placed.can (omega arith, omega arith))) (rest.done 19 (worker_actor s.plan 19 k.placed.can (omega arith, omega arith))) second third (last rest.second second)
  where
    last : TakesNone 18 s crew → is_killed 18 s.log ≡ false → IsLast (lists_by s.plan s.log) crew.round crew.at
    last (inl dead) alive = absurd (cc (sym dead ∙ alive))
    last (inr all) alive = all

-- ---- the orders of the clients
-- nothing was given yet, and who was killed stands in the log
abbrev pub crew_at : List Line → Crew
crew_at log = record { round = 0; at = 0; second_killed = is_killed 18 log; third_killed = is_killed 19 log }

module _ (a : ActorId) (mid new : State) where
  line_at : (line : Line) → new.log ≡ line ∷ mid.log → is_of a.0 line ≡ true → IsCrew (crew_at mid.log) new → IsCrew (crew_at new.log) new
  line_at line log own kept =
      let second : is_killed 18 new.log ≡ is_killed 18 mid.log = ap (is_killed 18) log ∙ still_lives a.0 18 line mid.log own in
      let third : is_killed 19 new.log ≡ is_killed 19 mid.log = ap (is_killed 19) log ∙ still_lives a.0 19 line mid.log own in
      let same : crew_at new.log ≡ crew_at mid.log = λ i. record { round = 0; at = 0; second_killed = second i; third_killed = third i } in
      subst (λ (c : Crew). IsCrew c new) (sym same) kept

  turn_at : (turned : Turned) → Turns a mid turned new → IsCrew (crew_at mid.log) mid → IsCrew (crew_at new.log) new
  turn_at Moved h k = line_at h.line h.added h.own (line_kept a mid new None h (crew_at mid.log) k)
  turn_at (Waits owner) h k = line_at h.line h.added h.own (line_kept a mid new (Some owner) h (crew_at mid.log) k)
  turn_at Ended h k = subst (λ (s : State). IsCrew (crew_at s.log) s) (sym h.1) k
  turn_at Full h k = subst (λ (s : State). IsCrew (crew_at s.log) s) (sym h.2) k

pub orders_kept : (old new : State) → ClientsRun old new → IsCrew (crew_at old.log) old → IsCrew (crew_at new.log) new
orders_kept old _ AtFirst k = k
orders_kept old new (AfterEvent mid _ r h) k =
    let kept = event_kept mid new h (crew_at mid.log) (orders_kept old mid r k) in
    let log : new.log ≡ Event h.event ∷ mid.log = ap (λ (s : State). s.log) h.added in
    subst (λ (l : List Line). IsCrew (crew_at l) new) (sym log) kept
orders_kept old new (AfterTurn mid _ a turned r client h) k = turn_at a mid new turned h (orders_kept old mid r k)

pub begins_at : (s : State) → s ≡ opened_for s.crawl s.plan → s.crawl ≡ true → s.log ≡ [] → CanCrawl s.plan → IsCrew (crew_at s.log) s
begins_at s e crawls fresh can =
    let opened : s ≡ opened_for true s.plan = e ∙ ap (λ (crawl : Bool). opened_for crawl s.plan) crawls in
    subst (λ (l : List Line). IsCrew (crew_at l) s) (sym fresh) (begins s opened can)

pub three_done : (s : State) → is_done_in 17 s ≡ true → is_done_in 18 s ≡ true → is_done_in 19 s ≡ true → (k : ℕ) → k < 3 → is_done_in (17 + k) s ≡ true
three_done s first second third zero small = first
three_done s first second third (suc zero) small = second
three_done s first second third (suc (suc zero)) small = third
three_done s first second third (suc (suc (suc k))) small = absurd (omega (arith, small))

pub ends_if : {A E : Type 0} (P Q : Type 0) (result : Result A E) → (P → Q) → OnOk result P → OnOk result Q
ends_if P Q (Ok x) f k = f k
ends_if P Q (Err e) f k = tt
