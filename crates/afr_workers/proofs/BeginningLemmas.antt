-- Before the first turn of a thread nothing was put, taken or given.
use Rattle.std.proofs.Common.{◌≡◌, ◌∙◌, ℕ, zero, suc, ◌++◌, nat_lt, Bool, true, false, List, [], ◌∷◌, None, Some, inl, inr, refl, sym, ap, arith, subst, length, slice_get}
use Rattle.std.proofs.lemmas.Bool.Decides.{nat_tests}
use Rattle.afr_base.specs.declared.ids.ActorId.{ActorId}
use Rattle.afr_model.specs.Actors.{Client, Healer, IsActor}
use Rattle.afr_model.specs.Crawl.{CanCrawl, IsWorker, lists_by}
use Rattle.afr_plan.specs.declared.plan.Plan.{Plan}
use Rattle.afr_tasks.specs.Exchange.{Exchange}
use Rattle.afr_tasks.specs.declared.rule.Task.{Task}
use Rattle.afr_volume.specs.Going.{AfterEvent, AfterTurn, AtFirst, ClientsRun}
use Rattle.afr_volume.specs.State.{State, opened_for}
use Rattle.afr_volume.specs.Turning.{Turns}
use Rattle.afr_volume.specs.declared.turned.Turned.{Turned}
use Rattle.afr_volume.specs.declared.turned.Turned.TheVariants.{Ended, Full, Moved, Waits}
use Rattle.afr_workers.specs.Crew.{IsCrew, IsPlaced, tasks_given}
use Rattle.afr_workers.specs.Cursor.{Item, Lists, items_before, items_below}
use Rattle.afr_workers.specs.Workshop.{AreActors, HasTaken, IsBegun, IsMerge, IsOneOf, IsShop, Neither, items_among, tasks_put}
use Rattle.afr_workers.specs.declared.crew.Crew.{Crew}
use Rattle.afr_workers.specs.declared.workshop.Workshop.{Workshop}
use Rattle.afr_workers.proofs.CrewLemmas.{event_proceeds, line_proceeds}
use Rattle.afr_workers.proofs.PassLemmas.{begins_at, crew_at, orders_kept}
use Rattle.afr_workers.proofs.PlaceLemmas.{at_first}

-- nothing comes before the first place
none_below : (lists : Lists) → items_below 0 lists ≡ []
none_below [] = refl
none_below (list ∷ lists) = let none : nat_lt (length lists) 0 ≡ false = grind (arith, nat_tests) in rw none (none_below lists)

none_before : (lists : Lists) → items_before 0 0 lists ≡ []
none_before lists = at_first 0 lists ∙ none_below lists

-- the orders of clients give nothing
orders_given : (old new : State) → ClientsRun old new → IsCrew (crew_at old.log) old → (c : ℕ) → IsWorker c → tasks_given c new ≡ tasks_given c old
orders_given old _ AtFirst k c worker = refl
orders_given old new (AfterEvent mid _ r h) k c worker = (event_proceeds mid new h).given c worker ∙ orders_given old mid r k c worker
orders_given old new (AfterTurn mid _ a turned r client h) k c worker = by turned h ∙ orders_given old mid r k c worker
  where
    by : (turned : Turned) → Turns a mid turned new → tasks_given c new ≡ tasks_given c mid
    by Moved h = (line_proceeds a mid new None h (crew_at mid.log) (orders_kept old mid r k).placed).given c worker
    by (Waits owner) h = (line_proceeds a mid new (Some owner) h (crew_at mid.log) (orders_kept old mid r k).placed).given c worker
    by Ended h = ap (tasks_given c) h.1
    by Full h = ap (tasks_given c) h.2

-- nor were the workers given anything before
pub begun : (old new : State) → old ≡ opened_for old.crawl old.plan → old.crawl ≡ true → old.log ≡ [] → CanCrawl old.plan → ClientsRun old new → IsBegun new
begun old new e crawls fresh can runs =
    let first = begins_at old e crawls fresh can in
    let opened : old ≡ opened_for true old.plan = e ∙ ap (λ (crawl : Bool). opened_for crawl old.plan) crawls in
    record {
      placed = (orders_kept old new runs first).placed;
      second = orders_given old new runs first 18 (omega arith, omega arith) ∙ ap (tasks_given 18) opened;
      third = orders_given old new runs first 19 (omega arith, omega arith) ∙ ap (tasks_given 19) opened;
    }

abbrev none_put : Exchange
none_put = record { put = []; second = []; third = [] }

-- so the three facts hold
pub shop_begins : (x : Workshop) → IsBegun x.volume → x.tasks ≡ none_put → x.crew ≡ crew_at x.volume.log → x.stops ≡ 0 → IsShop x
shop_begins x b tasks crew stops = record {
  placed = subst (λ (c : Crew). IsPlaced c x.volume) (sym crew) b.placed;
  puts = record {
    put = ap (λ (t : Exchange). t.put) tasks ∙ sym none;
    few = omega (arith, stops);
    whole = λ some. absurd (omega (arith, some, stops));
  };
  second = taken 18 x.tasks.second (ap (λ (t : Exchange). t.second) tasks) b.second;
  third = taken 19 x.tasks.third (ap (λ (t : Exchange). t.third) tasks) b.third;
}
  where
    none : tasks_put (items_before x.crew.round x.crew.at (lists_by x.volume.plan x.volume.log)) x.stops ≡ []
    none =
        ap (λ (c : Crew). tasks_put (items_before c.round c.at (lists_by x.volume.plan x.volume.log)) x.stops) crew
        ∙ ap (λ (n : ℕ). tasks_put (items_before 0 0 (lists_by x.volume.plan x.volume.log)) n) stops
        ∙ ap (λ (items : List Item). tasks_put items 0) (none_before (lists_by x.volume.plan x.volume.log))

    taken : (a : ℕ) (all : List Task) → all ≡ [] → tasks_given a x.volume ≡ [] → HasTaken a x.volume x.no_memory all
    taken a all e g = record {
      passed = [];
      merged = subst (λ (given : List Item). IsMerge (items_among all) given []) (sym g) (subst (λ (items : List Item). IsMerge items [] []) (sym (ap items_among e)) Neither);
      cause = inl refl;
    }

-- ---- actors
pub none_are : (clients : ℕ) → AreActors clients []
none_are clients i a e = absurd (cc e)

-- one more
pub one_actor_more : (clients : ℕ) (actors : List ActorId) (x : ActorId) → AreActors clients actors → IsOneOf clients x.0 → AreActors clients (actors ++ x ∷ [])
one_actor_more clients [] x all own zero a e = let same : x ≡ a = cc e in subst (λ (y : ActorId). IsOneOf clients y.0) same own
one_actor_more clients [] x all own (suc i) a e = absurd (cc e)
one_actor_more clients (y ∷ actors) x all own zero a e = all 0 a e
one_actor_more clients (y ∷ actors) x all own (suc i) a e = one_actor_more clients actors x (λ j b f. all (suc j) b f) own i a e

-- of a plan that can be crawled
pub are_actors : (p q : Plan) (clients : ℕ) (actors : List ActorId) → p ≡ q → CanCrawl p → clients ≡ length p.clients → AreActors clients actors → (i : ℕ) (a : ActorId) → slice_get actors i ≡ Some a → IsActor q a.0
are_actors p q clients actors same can count all i a e = subst (λ (r : Plan). IsActor r a.0) same (by (all i a e))
  where
    by : IsOneOf clients a.0 → IsActor p a.0
    by (inl client) = (let low = client.0 in let high = client.1 in Client (omega (arith, low)) (omega (arith, high, count)))
    by (inr healer) = (let many = can.healers in let low = healer.0 in let high = healer.1 in Healer (omega (arith, low)) (omega (arith, high, many)))
