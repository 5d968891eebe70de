-- An item that was put stands in a list that the crawler was given.
use Rattle.std.proofs.Common.{◌≡◌, ◌∙◌, ℕ, zero, suc, ◌<◌, ◌==◌, ◌++◌, nat_lt, Bool, true, false, List, [], ◌∷◌, Option, None, Some, if◌then◌else◌, refl, ap, subst, ⊎_elim, arith, drop, get_or, length, map, replicate, take}
use Rattle.std.specs.Prelude.{Contains}
use Rattle.std.proofs.lemmas.Bool.Decides.{nat_tests}
use Rattle.std.proofs.lemmas.List.{take-append-drop}
use Rattle.std.proofs.lemmas.List.Elements.{Contains-append_cases, Contains-append_left}
use Rattle.std.proofs.lemmas.Option.{slice_get-get_or}
use Rattle.afr_lines.specs.declared.line.Line.{Line}
use Rattle.afr_model.specs.Crawl.{IsGiven, list_at, lists_by}
use Rattle.afr_plan.specs.declared.plan.Plan.{Plan}
use Rattle.afr_tasks.specs.declared.rule.Task.{Task}
use Rattle.afr_tasks.specs.declared.rule.Task.TheVariants.{Stop}
use Rattle.afr_volume.specs.State.{State}
use Rattle.afr_workers.specs.Cursor.{Item, Lists, items_before, items_below, items_in}
use Rattle.afr_workers.specs.Workshop.{HasPut, heal_of, tasks_put}
use Rattle.afr_workers.proofs.GivenLemmas.{item_given}
use Rattle.afr_workers.proofs.PlaceLemmas.{list_stays, there_within}

-- ---- among what was put
item_is : (x item : Item) → heal_of x ≡ heal_of item → x ≡ item
item_is x item e =
    let gfid : x.0 ≡ item.0 = cc e in
    let what : x.1 ≡ item.1 = cc e in
    λ i. (gfid i, what i)

among_heals : (items : List Item) (item : Item) (i : ℕ) → i < length (map heal_of items) → get_or (map heal_of items) i (heal_of item) ≡ heal_of item → Contains items item
among_heals [] item i small e = absurd (omega (arith, small))
among_heals (x ∷ items) item zero small e = (0, omega arith, item_is x item e)
among_heals (x ∷ items) item (suc i) small e = let c = among_heals items item i (omega (arith, small)) e in (suc c.0, omega (arith, c.1), c.2)

no_stop : (stops : ℕ) (item : Item) (i : ℕ) → i < length (replicate stops Stop) → get_or (replicate stops Stop) i (heal_of item) ≡ heal_of item → ⊥
no_stop zero item i small e = omega (arith, small)
no_stop (suc stops) item zero small e = cc e
no_stop (suc stops) item (suc i) small e = no_stop stops item i (omega (arith, small)) e

among_items : (items : List Item) (stops : ℕ) (item : Item) → Contains (tasks_put items stops) (heal_of item) → Contains items item
among_items items stops item c =
    ⊎_elim (λ (k : Contains (map heal_of items) (heal_of item)). among_heals items item k.0 k.1 k.2) (λ (k : Contains (replicate stops Stop) (heal_of item)). absurd (no_stop stops item k.0 k.1 k.2))
    (Contains-append_cases (map heal_of items) (replicate stops Stop) (heal_of item) c)

-- ---- among what comes before a place
record IsListed (lists : Lists) (item : Item) : Type 0 where
  round : ℕ
  list : List Item
  given : list_at round lists ≡ Some list
  there : Contains list item

in_list : (lists : Lists) (round : ℕ) (item : Item) → Contains (items_in (list_at round lists)) item → IsListed lists item
in_list lists round item c = by (list_at round lists) refl c
  where
    by : (given : Option (List Item)) → list_at round lists ≡ given → Contains (items_in given) item → IsListed lists item
    by None e k = absurd (omega (arith, k.1))
    by (Some list) e k = record { round = round; list = list; given = e; there = k }

in_older : (list : Option (List Item)) (lists : Lists) (item : Item) → IsListed lists item → IsListed (list ∷ lists) item
in_older list lists item l = record { round = l.round; list = l.list; given = list_stays list lists l.round (there_within lists l.round l.list l.given) ∙ l.given; there = l.there }

in_latest : (list : Option (List Item)) (lists : Lists) (item : Item) → Contains (items_in list) item → IsListed (list ∷ lists) item
in_latest None lists item k = absurd (omega (arith, k.1))
in_latest (Some list) lists item k = record {
  round = length lists;
  list = list;
  given = (let here : (length lists == length lists) ≡ true = grind (arith, nat_tests) in rw here refl);
  there = k;
}

in_rounds : (rounds : ℕ) (lists : Lists) (item : Item) → Contains (items_below rounds lists) item → IsListed lists item
in_rounds rounds [] item c = absurd (omega (arith, c.1))
in_rounds rounds (list ∷ lists) item c = by (nat_lt (length lists) rounds) c (λ k. in_older list lists item (in_rounds rounds lists item k))
  where
    by : (within : Bool) → Contains (if within then items_below rounds lists ++ items_in list else items_below rounds lists) item → (Contains (items_below rounds lists) item → IsListed (list ∷ lists) item) → IsListed (list ∷ lists) item
    by true k older = ⊎_elim older (in_latest list lists item) (Contains-append_cases (items_below rounds lists) (items_in list) item k)
    by false k older = older k

in_front : (at : ℕ) (items : List Item) (item : Item) → Contains (take at items) item → Contains items item
in_front at items item c = subst (λ (all : List Item). Contains all item) (take-append-drop at items) (Contains-append_left (take at items) (drop at items) item c)

before_listed : (round at : ℕ) (lists : Lists) (item : Item) → Contains (items_before round at lists) item → IsListed lists item
before_listed round at lists item c =
    ⊎_elim (in_rounds round lists item) (λ (k : Contains (take at (items_in (list_at round lists))) item). in_list lists round item (in_front at (items_in (list_at round lists)) item k))
    (Contains-append_cases (items_below round lists) (take at (items_in (list_at round lists))) item c)

listed_given : (p : Plan) (log : List Line) (item : Item) → IsListed (lists_by p log) item → IsGiven p item log
listed_given p log item l = item_given p item log l.round l.there.0 l.list l.given (slice_get-get_or l.list l.there.0 item l.there.1 ∙ ap (λ (x : Item). Some x) l.there.2)

pub put_given : (s : State) (round at stops : ℕ) (tasks : List Task) → HasPut s round at stops tasks → (item : Item) → Contains tasks (heal_of item) → IsGiven s.plan item s.log
put_given s round at stops tasks h item c =
    let items : List Item = items_before round at (lists_by s.plan s.log) in
    listed_given s.plan s.log item (before_listed round at (lists_by s.plan s.log) item (among_items items stops item (subst (λ (all : List Task). Contains all (heal_of item)) h.put c)))
