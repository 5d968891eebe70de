-- Where nothing waits to be taken, what the workers were given are the items that were put.
use Rattle.std.proofs.Common.{◌≡◌, ◌⊎◌, ℕ, zero, suc, ◌+◌, ◌<◌, Bool, true, false, List, [], ◌∷◌, inl, inr, refl, sym, ap, ◌∙◌, arith, length, map, replicate}
use Rattle.afr_lines.specs.Work.{is_killed}
use Rattle.afr_model.specs.Crawl.{lists_by}
use Rattle.afr_tasks.proofs.Balances.{weigh_append}
use Rattle.afr_tasks.specs.Balance.{weigh}
use Rattle.afr_tasks.specs.Exchange.{queued_in}
use Rattle.afr_tasks.specs.declared.rule.Task.{Task}
use Rattle.afr_tasks.specs.declared.rule.Task.TheVariants.{Heal, Stop}
use Rattle.afr_volume.specs.State.{State}
use Rattle.afr_workers.specs.Crew.{IsCrawled, IsCrew, IsTriedIn, tasks_given}
use Rattle.afr_workers.specs.Cursor.{Item, items_before}
use Rattle.afr_workers.specs.Workshop.{Given, HasTaken, IsMerge, IsShop, MayPass, Neither, Passed, heal_of, items_among, tasks_put}
use Rattle.afr_workers.specs.declared.workshop.Workshop.{Workshop}

-- a task weighs as its item, and a stop nothing
abbrev of_task : (Item → ℕ) → Task → ℕ
of_task worth (Heal gfid what) = worth (gfid, what)
of_task worth Stop = 0

weigh_items : (worth : Item → ℕ) (tasks : List Task) → weigh (of_task worth) tasks ≡ weigh worth (items_among tasks)
weigh_items worth [] = refl
weigh_items worth (Heal gfid what ∷ tasks) = ap (λ (n : ℕ). worth (gfid, what) + n) (weigh_items worth tasks)
weigh_items worth (Stop ∷ tasks) = omega (arith, weigh_items worth tasks)

weigh_heals : (worth : Item → ℕ) (items : List Item) → weigh (of_task worth) (map heal_of items) ≡ weigh worth items
weigh_heals worth [] = refl
weigh_heals worth (x ∷ items) = ap (λ (n : ℕ). worth x + n) (weigh_heals worth items)

weigh_stops : (worth : Item → ℕ) (n : ℕ) → weigh (of_task worth) (replicate n Stop) ≡ 0
weigh_stops worth zero = refl
weigh_stops worth (suc n) = omega (arith, weigh_stops worth n)

weigh_put : (worth : Item → ℕ) (items : List Item) (stops : ℕ) → weigh (of_task worth) (tasks_put items stops) ≡ weigh worth items
weigh_put worth items stops = omega (arith, weigh_append (of_task worth) (map heal_of items) (replicate stops Stop), weigh_heals worth items, weigh_stops worth stops)

weigh_merge : (worth : Item → ℕ) (taken given passed : List Item) → IsMerge taken given passed → weigh worth taken ≡ weigh worth given + weigh worth passed
weigh_merge worth taken given passed Neither = refl
weigh_merge worth taken given passed (Given a b c more item m e) = omega (arith, ap (weigh worth) e, weigh_append worth a (item ∷ []), weigh_merge worth a b c m)
weigh_merge worth taken given passed (Passed a b c more item m e) = omega (arith, ap (weigh worth) e, weigh_append worth a (item ∷ []), weigh_merge worth a b c m)

-- a worker that lives passes over nothing while the log has room and memory wasn't wanting
given_all : (a : ℕ) (s : State) (no_memory : Bool) (tasks : List Task) → no_memory ≡ false → length s.log < s.plan.turns → is_killed a s.log ≡ false → HasTaken a s no_memory tasks → (worth : Item → ℕ) → weigh (of_task worth) tasks ≡ weigh worth (tasks_given a s)
given_all a s no_memory tasks memory room alive h worth = omega (arith, weigh_items worth tasks, weigh_merge worth (items_among tasks) (tasks_given a s) h.passed h.merged, ap (weigh worth) (none h.cause))
  where
    none : (h.passed ≡ []) ⊎ MayPass a s no_memory → h.passed ≡ []
    none (inl e) = e
    none (inr (inl dead)) = absurd (cc (sym dead ∙ alive))
    none (inr (inr (inl full))) = absurd (omega (arith, full, room))
    none (inr (inr (inr noted))) = absurd (cc (sym noted ∙ memory))

pub crew_of_shop : (x : Workshop) → IsShop x → ((h : Task → ℕ) → weigh h x.tasks.put ≡ weigh h x.tasks.second + weigh h x.tasks.third) → x.no_memory ≡ false → length x.volume.log < x.volume.plan.turns → IsCrew x.crew x.volume
crew_of_shop x k taken memory room = record {
  placed = k.placed;
  given = λ two three worth.
      let items : List Item = items_before x.crew.round x.crew.at (lists_by x.volume.plan x.volume.log) in
      omega (
        arith,
        taken (of_task worth),
        ap (weigh (of_task worth)) k.puts.put,
        weigh_put worth items x.stops,
        given_all 18 x.volume x.no_memory x.tasks.second memory room two k.second worth,
        given_all 19 x.volume x.no_memory x.tasks.third memory room three k.third worth,
      );
}

-- where memory wasn't wanting, a full log or an empty queue has ended the last passes
pub drained_of : (x : Workshop) → x.no_memory ≡ false → (x.no_memory ≡ true) ⊎ ((length x.volume.log ≡ x.volume.plan.turns) ⊎ (queued_in x.tasks ≡ 0)) → (length x.volume.log ≡ x.volume.plan.turns) ⊎ (queued_in x.tasks ≡ 0)
drained_of x memory (inl noted) = absurd (cc (sym noted ∙ memory))
drained_of x memory (inr over) = over

-- a full log ends a crawl
pub full_crawled : (s : State) → length s.log ≡ s.plan.turns → IsCrawled s
full_crawled s full = record { complete = inl full; idle = λ room. absurd (omega (arith, room, full)) }

pub full_tried : (s : State) → length s.log ≡ s.plan.turns → IsTriedIn s
full_tried s full = λ room. absurd (omega (arith, room, full))
