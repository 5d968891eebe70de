-- The tasks of the workers among all healers.
use Rattle.std.proofs.Common.{◌≡◌, ◌∙◌, ℕ, zero, suc, ◌+◌, ◌-◌, ◌<◌, ◌≤◌, Bool, true, false, List, [], ◌∷◌, Option, None, Some, refl, sym, ap, arith, subst, length, map, option_map, slice_get, slice_set, get_or}
use Rattle.std.proofs.lemmas.Option.{slice_get-get_or, slice_get-map, slice_get_within}
use Rattle.afr_base.specs.declared.ids.BrickId.{BrickId}
use Rattle.afr_base.specs.declared.ids.Gfid.{Gfid}
use Rattle.afr_base.specs.declared.ids.Shape.{Shape}
use Rattle.afr_base.specs.declared.ids.What.{What}
use Rattle.afr_heal_round.specs.Rounding.{Rounding, made_ready}
use Rattle.afr_healer.specs.Acting.{round_or}
use Rattle.afr_healer.specs.declared.healer.Healer.{Healer}
use Rattle.afr_lines.specs.Work.{Work, work}
use Rattle.afr_lines.specs.declared.line.Event.{Event}
use Rattle.afr_lines.specs.declared.line.Line.{Line}
use Rattle.afr_lines.specs.declared.line.Line.TheVariants as line_of
use Rattle.afr_model.specs.Actors.{rounds_of}
use Rattle.afr_model.specs.Crawl.{AreOfItem, CanCrawl, IsWorker}
use Rattle.afr_plan.specs.declared.plan.Plan.{Plan}
use Rattle.afr_volume.specs.Keeping.{AreCrawling, IsAtIts}
use Rattle.afr_volume.specs.Tasks.{of_workers, task_at, task_of, tasks_of}
use Rattle.afr_volume.specs.Turning.{KillsHealersIn, ReadiedHealerAt}
use Rattle.afr_volume.proofs.PaceAll.{set_each}

-- ---- one healer among all
pub get_set_other : (l : List Healer) (i j : ℕ) (y : Healer) → (i ≡ j → ⊥) → slice_get (slice_set l i y) j ≡ slice_get l j
get_set_other [] zero j y apart = refl
get_set_other [] (suc i) j y apart = refl
get_set_other (x ∷ l) zero zero y apart = absurd (apart refl)
get_set_other (x ∷ l) zero (suc j) y apart = refl
get_set_other (x ∷ l) (suc i) zero y apart = refl
get_set_other (x ∷ l) (suc i) (suc j) y apart = get_set_other l i j y (λ same. apart (ap suc same))

pub get_set_here : (l : List Healer) (i : ℕ) (x y : Healer) → slice_get l i ≡ Some x → slice_get (slice_set l i y) i ≡ Some y
get_set_here [] i x y is = absurd (cc is)
get_set_here (z ∷ l) zero x y is = refl
get_set_here (z ∷ l) (suc i) x y is = get_set_here l i x y is

-- the task of a worker stands one place further up than the worker
pub worker_get : (healers : List Healer) (i : ℕ) → slice_get (of_workers healers) i ≡ option_map task_of (slice_get healers (suc i))
worker_get [] i = refl
worker_get (x ∷ healers) i = slice_get-map task_of healers i

-- ---- healers with the same tasks
map_same : (l : List Healer) (i : ℕ) (x y : Healer) → slice_get l i ≡ Some x → task_of y ≡ task_of x → map task_of (slice_set l i y) ≡ map task_of l
map_same [] zero x y is e = refl
map_same [] (suc i) x y is e = refl
map_same (z ∷ l) zero x y is e = let here : z ≡ x = cc is in ap (λ (task : Option (Gfid × What)). task ∷ map task_of l) (e ∙ ap task_of (sym here))
map_same (z ∷ l) (suc i) x y is e = ap (λ (rest : List (Option (Gfid × What))). task_of z ∷ rest) (map_same l i x y is e)

-- a healer that is put in another's place changes none, if it has the same task or is the first
pub workers_same : (healers : List Healer) (i : ℕ) (x y : Healer) → slice_get healers i ≡ Some x → (1 ≤ i → task_of y ≡ task_of x) → of_workers (slice_set healers i y) ≡ of_workers healers
workers_same [] zero x y is e = refl
workers_same [] (suc i) x y is e = refl
workers_same (z ∷ healers) zero x y is e = refl
workers_same (z ∷ healers) (suc i) x y is e = map_same healers i x y is (e (omega arith))

map_each : (old new : List Healer) → length new ≡ length old → ((i : ℕ) (x y : Healer) → slice_get old i ≡ Some x → slice_get new i ≡ Some y → task_of y ≡ task_of x) → map task_of new ≡ map task_of old
map_each [] [] many k = refl
map_each [] (y ∷ new) many k = absurd (cc many)
map_each (x ∷ old) [] many k = absurd (cc many)
map_each (x ∷ old) (y ∷ new) many k =
    let here = k zero x y refl refl in
    let rest = map_each old new (cc many) (λ i u v is at. k (suc i) u v is at) in
    λ i. here i ∷ rest i

workers_each : (old new : List Healer) → length new ≡ length old → ((i : ℕ) (x y : Healer) → slice_get old i ≡ Some x → slice_get new i ≡ Some y → task_of y ≡ task_of x) → of_workers new ≡ of_workers old
workers_each [] [] many k = refl
workers_each [] (y ∷ new) many k = absurd (cc many)
workers_each (x ∷ old) [] many k = absurd (cc many)
workers_each (x ∷ old) (y ∷ new) many k = map_each old new (cc many) (λ i u v is at. k (suc i) u v is at)

-- ---- an event leaves them all
pub killed_tasks : (crawl : Bool) (event : Event) (old new : List Healer) → KillsHealersIn event old new → tasks_of crawl new ≡ tasks_of crawl old
killed_tasks false event old new k = refl
killed_tasks true event old new k = workers_each old new k.count (λ i x y is at. ap task_of (k.each i x y is at))

-- ---- a line beside a task
pub beside : (a : ℕ) (line : Line) (log : List Line) (round : Option Rounding) → work a (line ∷ log) ≡ work a log → IsAtIts a log round → IsAtIts a (line ∷ log) round
beside a line log None same t = tt
beside a line log (Some m) same t = record { item = t.item; list = t.list; of = subst (λ (w : Work). AreOfItem t.item w) (sym same) t.of }

-- a line of no healer
pub others_crawl : (p : Plan) (line : Line) (log : List Line) (healers : List Healer) → ((c : ℕ) → 17 ≤ c → work c (line ∷ log) ≡ work c log) → AreCrawling p log healers → AreCrawling p (line ∷ log) healers
others_crawl p line log healers same k = record { can = k.can; tasks = λ i x is worker. beside (17 + i) line log x.round (same (17 + i) (omega arith)) (k.tasks i x is worker) }

-- an event
pub killed_crawl : (p : Plan) (event : Event) (log : List Line) (healers after : List Healer) → KillsHealersIn event healers after → AreCrawling p log healers → AreCrawling p (line_of.Event event ∷ log) after
killed_crawl p event log healers after killed k = record { can = k.can; tasks = each }
  where
    each : (i : ℕ) (y : Healer) → slice_get after i ≡ Some y → 1 ≤ i → IsAtIts (17 + i) (line_of.Event event ∷ log) y.round
    each i y h worker =
        let there = slice_get-get_or healers i y (omega (arith, slice_get_within after i y h, killed.count)) in
        subst (λ (z : Healer). IsAtIts (17 + i) (line_of.Event event ∷ log) z.round) (sym (killed.each i (get_or healers i y) y there h))
        (beside (17 + i) (line_of.Event event) log (get_or healers i y).round refl (k.tasks i (get_or healers i y) there worker))

-- ---- a healer is made ready
-- a plan that is crawled has no rounds for workers
pub no_rounds : (p : Plan) (a k : ℕ) (b : BrickId) → CanCrawl p → IsWorker a → slice_get (rounds_of p a) k ≡ Some b → ⊥
no_rounds p a k b can worker is = let none : slice_get [] k ≡ Some b = rw (can.crawls a worker) at is in cc none

-- with a round under way it has the task that it had
ready_task : (shape : Shape) (heals : Bool) (b : BrickId) (round : Option Rounding) → (round ≡ None → ⊥) → task_at (Some (made_ready (round_or shape heals b round))) ≡ task_at round
ready_task shape heals b None some = absurd (some refl)
ready_task shape heals b (Some m) some = refl

pub readied_tasks : (crawl : Bool) (p : Plan) (a : ℕ) (healers readied : List Healer) → (crawl ≡ true → CanCrawl p) → 17 ≤ a → a < 20 → ReadiedHealerAt crawl p a healers readied → tasks_of crawl readied ≡ tasks_of crawl healers
readied_tasks false p a healers readied can low high r = refl
readied_tasks true p a healers readied can low high r =
    ap of_workers r.set_is
    ∙ workers_same healers (a - 17) r.before r.after r.was
    (λ worker. ap task_of r.readies ∙ ready_task p.shape false r.brick r.before.round (λ none. no_rounds p a r.before.ended r.brick (can refl) (omega (arith, worker), omega (arith, high)) (r.present none)))

readied_crawl : (p : Plan) (a : ℕ) (log : List Line) (healers readied : List Healer) → 17 ≤ a → a < 20 → ReadiedHealerAt true p a healers readied → AreCrawling p log healers → AreCrawling p log readied
readied_crawl p a log healers readied low high r k = record {
  can = k.can;
  tasks = λ i x is. set_each (λ (i : ℕ) (z : Healer). 1 ≤ i → IsAtIts (17 + i) log z.round) healers (a - 17) r.after (λ i z apart h. k.tasks i z h) own i x (rw r.set_is at is);
}
  where
    made : 1 ≤ a - 17 → (round : Option Rounding) → r.before.round ≡ round → IsAtIts (17 + (a - 17)) log round → IsAtIts (17 + (a - 17)) log (Some (made_ready (round_or p.shape false r.brick round)))
    made worker None none t = absurd (no_rounds p a r.before.ended r.brick k.can (omega (arith, worker), omega (arith, high)) (r.present none))
    made worker (Some m) some t = record { item = t.item; list = t.list; of = t.of }

    own : 1 ≤ a - 17 → IsAtIts (17 + (a - 17)) log r.after.round
    own worker = subst (λ (z : Healer). IsAtIts (17 + (a - 17)) log z.round) (sym r.readies) (made worker r.before.round refl (k.tasks (a - 17) r.before r.was worker))

pub readied_crawls : (crawl : Bool) (p : Plan) (a : ℕ) (log : List Line) (healers readied : List Healer) → 17 ≤ a → a < 20 → ReadiedHealerAt crawl p a healers readied → (crawl ≡ true → AreCrawling p log healers) → crawl ≡ true → AreCrawling p log readied
readied_crawls true p a log healers readied low high r k e = readied_crawl p a log healers readied low high r (k e)
readied_crawls false p a log healers readied low high r k e = absurd (cc e)
