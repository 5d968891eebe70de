-- Places in lists: what comes before them, and what of it stays where a list more is given.
use Rattle.std.proofs.Common.{◌≡◌, ◌∙◌, ℕ, zero, suc, ◌+◌, ◌<◌, ◌≤◌, ◌==◌, ◌++◌, nat_lt, Bool, true, false, List, [], ◌∷◌, Option, None, Some, refl, sym, ap, append_assoc, arith, length, map, slice_get, take}
use Rattle.std.specs.Prelude.{option_and_then, sum}
use Rattle.std.specs.List.{fold}
use Rattle.std.proofs.lemmas.Bool.Decides.{nat_tests}
use Rattle.std.proofs.lemmas.List.{append-nil}
use Rattle.afr_lines.specs.Log.{from_oldest}
use Rattle.afr_model.specs.Crawl.{items_of, list_at}
use Rattle.afr_tasks.proofs.Balances.{weigh_append}
use Rattle.afr_tasks.specs.Balance.{weigh}
use Rattle.afr_workers.specs.Cursor.{ComesNext, IsLast, IsPlace, Item, Lists, items_before, items_below, items_given, items_in}

-- ---- weights
-- a sum of weights
sums : (worth : Item → ℕ) (n : ℕ) (items : List Item) → fold (λ a x. a + x) n (map worth items) ≡ n + weigh worth items
sums worth n [] = omega arith
sums worth n (item ∷ items) = sums worth (n + worth item) items ∙ omega arith

pub sum_is : (worth : Item → ℕ) (items : List Item) → sum (map worth items) ≡ weigh worth items
sum_is worth items = sums worth 0 items ∙ omega arith

-- the items of all lists weigh the same in either order
pub weigh_given : (worth : Item → ℕ) (lists : Lists) → weigh worth (items_given lists) ≡ weigh worth (items_of lists)
weigh_given worth [] = refl
weigh_given worth (None ∷ lists) = omega (arith, weigh_append worth (items_given lists) [], weigh_given worth lists)
weigh_given worth (Some list ∷ lists) = omega (arith, weigh_append worth (items_given lists) list, weigh_append worth list (items_of lists), weigh_given worth lists)

-- ---- one list
some_is : (x y : Item) → Some x ≡ Some y → x ≡ y
some_is x y e = cc e

-- one item more of it
take_one : (list : List Item) (at : ℕ) (item : Item) → slice_get list at ≡ Some item → take (suc at) list ≡ take at list ++ item ∷ []
take_one [] at item is = absurd (cc is)
take_one (x ∷ list) zero item is = ap (λ (y : Item). y ∷ []) (some_is x item is)
take_one (x ∷ list) (suc at) item is = ap (λ (items : List Item). x ∷ items) (take_one list at item is)

-- all of it
take_all : (list : List Item) (at : ℕ) → length list ≤ at → take at list ≡ list
take_all [] zero most = refl
take_all [] (suc at) most = refl
take_all (x ∷ list) zero most = absurd (omega (arith, most))
take_all (x ∷ list) (suc at) most = ap (λ (items : List Item). x ∷ items) (take_all list at (omega (arith, most)))

-- ---- rounds
past : (lists : Lists) (round : ℕ) → length lists ≤ round → from_oldest round lists ≡ None
past [] round most = refl
past (list ∷ lists) round most = (let other : (round == length lists) ≡ false = grind (arith, nat_tests, most) in rw other (past lists round (omega (arith, most))))

-- past the last round there is no list
pub none_past : (lists : Lists) (round : ℕ) → length lists ≤ round → list_at round lists ≡ None
none_past lists round most = ap (option_and_then (λ (list : Option (List Item)). list)) (past lists round most)

-- a list more leaves those before it
pub list_stays : (list : Option (List Item)) (lists : Lists) (round : ℕ) → round < length lists → list_at round (list ∷ lists) ≡ list_at round lists
list_stays list lists round small = let other : (round == length lists) ≡ false = grind (arith, nat_tests, small) in rw other refl

rounds_stay : (list : Option (List Item)) (lists : Lists) (rounds : ℕ) → rounds ≤ length lists → items_below rounds (list ∷ lists) ≡ items_below rounds lists
rounds_stay list lists rounds few = let other : nat_lt (length lists) rounds ≡ false = grind (arith, nat_tests, few) in rw other refl

-- all rounds
rounds_all : (lists : Lists) (rounds : ℕ) → length lists ≤ rounds → items_below rounds lists ≡ items_given lists
rounds_all [] rounds most = refl
rounds_all (list ∷ lists) rounds most =
    let within : nat_lt (length lists) rounds ≡ true = grind (arith, nat_tests, most) in
    rw within (ap (λ (items : List Item). items ++ items_in list) (rounds_all lists rounds (omega (arith, most))))

-- one round more
rounds_next : (lists : Lists) (round : ℕ) → items_below (round + 1) lists ≡ items_below round lists ++ items_in (list_at round lists)
rounds_next [] round = refl
rounds_next (list ∷ lists) round = by (nat_lt (length lists) round) (round == length lists) refl refl (rounds_next lists round)
  where
    by : (below here : Bool) → nat_lt (length lists) round ≡ below → (round == length lists) ≡ here → items_below (round + 1) lists ≡ items_below round lists ++ items_in (list_at round lists)
        → items_below (round + 1) (list ∷ lists) ≡ items_below round (list ∷ lists) ++ items_in (list_at round (list ∷ lists))
    by true true e f k = absurd (let same : round ≡ length lists = grind (arith, nat_tests, f) in let less : length lists < round = grind (arith, nat_tests, e) in omega (arith, same, less))
    by true false e f k =
        let less : length lists < round = grind (arith, nat_tests, e) in
        let more : nat_lt (length lists) (round + 1) ≡ true = grind (arith, nat_tests, e) in
        let none : items_in (list_at round lists) ≡ [] = ap items_in (none_past lists round (omega (arith, less))) in
        let whole : items_below (round + 1) lists ≡ items_below round lists = rounds_all lists (round + 1) (omega (arith, less)) ∙ sym (rounds_all lists round (omega (arith, less))) in
        rw (more, e, f)
        (ap (λ (items : List Item). items ++ items_in list) whole ∙ sym (append-nil (items_below round lists ++ items_in list)) ∙ ap (λ (items : List Item). (items_below round lists ++ items_in list) ++ items) (sym none))
    by false true e f k =
        let same : round ≡ length lists = grind (arith, nat_tests, f) in
        let more : nat_lt (length lists) (round + 1) ≡ true = grind (arith, nat_tests, f) in
        rw (more, e, f) (ap (λ (items : List Item). items ++ items_in list) (rounds_all lists (round + 1) (omega (arith, same)) ∙ sym (rounds_all lists round (omega (arith, same)))))
    by false false e f k =
        let less : nat_lt (length lists) (round + 1) ≡ false = grind (arith, nat_tests, e, f) in
        rw (less, e, f) k

-- ---- places
-- at the beginning of a round's list nothing of it comes before
pub at_first : (round : ℕ) (lists : Lists) → items_before round 0 lists ≡ items_below round lists
at_first round lists = first (items_in (list_at round lists))
  where
    first : (items : List Item) → items_below round lists ++ take 0 items ≡ items_below round lists
    first [] = append-nil (items_below round lists)
    first (item ∷ items) = append-nil (items_below round lists)

-- behind a round's list comes the next round
pub next_round : (round at : ℕ) (lists : Lists) → length (items_in (list_at round lists)) ≤ at → items_before (round + 1) 0 lists ≡ items_before round at lists
next_round round at lists most = at_first (round + 1) lists ∙ rounds_next lists round ∙ ap (λ (items : List Item). items_below round lists ++ items) (sym (take_all (items_in (list_at round lists)) at most))

-- behind an item comes the next place
next_place : (round at : ℕ) (lists : Lists) (list : List Item) (item : Item) → list_at round lists ≡ Some list → slice_get list at ≡ Some item → items_before round (at + 1) lists ≡ items_before round at lists ++ item ∷ []
next_place round at lists list item given there =
    let items : items_in (list_at round lists) ≡ list = ap items_in given in
    let next : at + 1 ≡ suc at = omega arith in
    ap (λ (some : List Item). items_below round lists ++ take (at + 1) some) items
    ∙ ap (λ (n : ℕ). items_below round lists ++ take n list) next
    ∙ ap (λ (some : List Item). items_below round lists ++ some) (take_one list at item there)
    ∙ sym (append_assoc (items_below round lists) (take at list) (item ∷ []))
    ∙ ap (λ (some : List Item). (items_below round lists ++ take at some) ++ item ∷ []) (sym items)

-- behind the last round nothing comes
pub last_place : (round at : ℕ) (lists : Lists) → length lists ≤ round → IsLast lists round at
last_place round at lists most = ap (λ (list : Option (List Item)). items_below round lists ++ take at (items_in list)) (none_past lists round most) ∙ none at ∙ rounds_all lists round most
  where
    none : (at : ℕ) → items_below round lists ++ take at [] ≡ items_below round lists
    none zero = append-nil (items_below round lists)
    none (suc at) = append-nil (items_below round lists)

pub last_from : (lists : Lists) (from_round from_at round at : ℕ) → items_before round at lists ≡ items_before from_round from_at lists → length lists ≤ round → IsLast lists from_round from_at
last_from lists from_round from_at round at same most = sym same ∙ last_place round at lists most

within : (list : List Item) (at : ℕ) (item : Item) → slice_get list at ≡ Some item → at + 1 ≤ length list
within [] at item is = absurd (cc is)
within (x ∷ list) zero item is = omega arith
within (x ∷ list) (suc at) item is = omega (arith, within list at item is)

pub there_within : (lists : Lists) (round : ℕ) (list : List Item) → list_at round lists ≡ Some list → round < length lists
there_within lists round list given = by (nat_lt round (length lists)) refl
  where
    by : (small : Bool) → nat_lt round (length lists) ≡ small → round < length lists
    by true e = grind (arith, nat_tests, e)
    by false e = absurd (let none : None ≡ Some list = sym (none_past lists round (grind (arith, nat_tests, e))) ∙ given in cc none)

-- the place behind the next item
pub place_next : (lists : Lists) (from_round from_at round at : ℕ) (item : Item) → ComesNext lists from_round from_at round at item → IsPlace lists round (at + 1)
place_next lists from_round from_at round at item c = record {
  few = omega (arith, there_within lists round c.list c.given);
  within = rw c.given (within c.list at item c.there);
}

-- before it comes what came before, and that item
pub before_next : (lists : Lists) (from_round from_at round at : ℕ) (item : Item) → ComesNext lists from_round from_at round at item → items_before round (at + 1) lists ≡ items_before from_round from_at lists ++ item ∷ []
before_next lists from_round from_at round at item c = next_place round at lists c.list item c.given c.there ∙ ap (λ (items : List Item). items ++ item ∷ []) c.same

-- ---- one list more
-- what was given is as it was, or has one list more
pub data Grows (old : Lists) : Lists → Type 0 where
  Stays : Grows old old
  More : (list : Option (List Item)) → Grows old (list ∷ old)

at_none : (lists : Lists) (round at : ℕ) → length lists ≤ round → at ≤ length (items_in (list_at round lists)) → at ≡ 0
at_none lists round at most few = let k : at ≤ length (items_in None) = rw (none_past lists round most) at few in omega (arith, k)

pub place_stays : (old new : Lists) (round at : ℕ) → Grows old new → IsPlace old round at → IsPlace new round at
place_stays old _ round at Stays k = k
place_stays old _ round at (More list) k = record { few = omega (arith, k.few); within = by (nat_lt round (length old)) refl }
  where
    by : (small : Bool) → nat_lt round (length old) ≡ small → at ≤ length (items_in (list_at round (list ∷ old)))
    by true e = rw (list_stays list old round (grind (arith, nat_tests, e))) k.within
    by false e = let none : at ≡ 0 = at_none old round at (grind (arith, nat_tests, e)) k.within in omega (arith, none)

pub before_stays : (old new : Lists) (round at : ℕ) → Grows old new → IsPlace old round at → items_before round at new ≡ items_before round at old
before_stays old _ round at Stays k = refl
before_stays old _ round at (More list) k = by (nat_lt round (length old)) refl
  where
    by : (small : Bool) → nat_lt round (length old) ≡ small → items_before round at (list ∷ old) ≡ items_before round at old
    by true e = rw (rounds_stay list old round k.few, list_stays list old round (grind (arith, nat_tests, e))) refl
    by false e =
        let none : at ≡ 0 = at_none old round at (grind (arith, nat_tests, e)) k.within in
        rw none (at_first round (list ∷ old) ∙ rounds_stay list old round k.few ∙ sym (at_first round old))
