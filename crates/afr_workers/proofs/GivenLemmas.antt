-- The lists that a crawler was given, and how they grow with the lines of a log.
use Rattle.std.proofs.Common.{◌≡◌, ℕ, ◌+◌, ◌<◌, ◌≤◌, ◌==◌, Bool, true, false, List, [], ◌∷◌, Option, Some, if◌then◌else◌, inl, inr, refl, sym, ap, arith, subst, length, slice_get}
use Rattle.std.specs.Prelude.{Contains, option_and_then}
use Rattle.std.proofs.lemmas.Bool.Decides.{nat_tests}
use Rattle.std.proofs.lemmas.Option.{get_or_from_slice_get, slice_get_within}
use Rattle.afr_base.specs.declared.ids.BrickId.{BrickId}
use Rattle.afr_law.proofs.Model.Tasks.{no_script}
use Rattle.afr_lines.specs.Log.{from_oldest}
use Rattle.afr_lines.specs.Work.{ended, is_end, is_of, work}
use Rattle.afr_lines.specs.declared.answer.Told.TheVariants.{Given}
use Rattle.afr_lines.specs.declared.line.Line.{Line}
use Rattle.afr_lines.specs.declared.line.Line.TheVariants.{Ask, Begin, End, Event, HealBegin, HealEnd}
use Rattle.afr_lines.specs.declared.request.Request.TheVariants as request
use Rattle.afr_model.specs.Actors.{rounds_of}
use Rattle.afr_model.specs.Crawl.{IsGiven, given_after, given_by, list_at, lists_by}
use Rattle.afr_model.specs.Following.{Follows, KeepsToTask, ToCommand, ToCrawl, ToItem, ToRound}
use Rattle.afr_plan.specs.declared.plan.Plan.{Plan}
use Rattle.afr_workers.specs.Cursor.{Item, Lists}
use Rattle.afr_workers.proofs.PlaceLemmas.{Grows, More, Stays}

-- ---- with one line more
pub lists_grow : (p : Plan) (line : Line) (log : List Line) → Grows (lists_by p log) (lists_by p (line ∷ log))
lists_grow p (End x said) log = by (x.0 == 17)
  where
    by : (own : Bool) → Grows (lists_by p log) (if own then given_by p (work 17 log) ∷ lists_by p log else lists_by p log)
    by true = More (given_by p (work 17 log))
    by false = Stays
lists_grow p (Ask a b asked told took) log = Stays
lists_grow p (Begin a change) log = Stays
lists_grow p (HealBegin a g kind) log = Stays
lists_grow p (HealEnd a g kind said) log = Stays
lists_grow p (Event event) log = Stays

-- ---- an item of a list was given
pub contains : (list : List Item) (at : ℕ) (item : Item) → slice_get list at ≡ Some item → Contains list item
contains list at item is = (at, slice_get_within list at item is, get_or_from_slice_get list at item item is)

after_given : (p : Plan) (item : Item) (line : Line) (log : List Line) (was : Option (List Item)) (list : List Item) → is_of 17 line ≡ true → given_after p line log was ≡ Some list → (was ≡ Some list → IsGiven p item log) → Contains list item → IsGiven p item (line ∷ log)
after_given p item (Ask a b request.Index Given took) log was list own e earlier c =
    let who : a.0 ≡ 17 = grind (arith, nat_tests, own) in
    inl (who, subst (λ (l : List Item). Contains l item) (sym (cc e)) c)
after_given p item line log was list own e earlier c = inr (earlier e)

given_in : (p : Plan) (item : Item) (log : List Line) (list : List Item) → given_by p (work 17 log) ≡ Some list → Contains list item → IsGiven p item log
given_in p item [] list e c = absurd (cc e)
given_in p item (line ∷ log) list e c = by (is_of 17 line) (is_end line) refl e (λ was. given_in p item log list was c)
  where
    by : (own end : Bool) → is_of 17 line ≡ own → given_by p (if own then (if end then [] else (line, log) ∷ work 17 log) else work 17 log) ≡ Some list → (given_by p (work 17 log) ≡ Some list → IsGiven p item log) → IsGiven p item (line ∷ log)
    by false end own e earlier = inr (earlier e)
    by true true own e earlier = absurd (cc e)
    by true false own e earlier = after_given p item line log (given_by p (work 17 log)) list own e earlier c

list_in : (p : Plan) (item : Item) (given : Option (List Item)) (log : List Line) (lists : Lists) (round : ℕ) (list : List Item) → list_at round (given ∷ lists) ≡ Some list → (given ≡ Some list → IsGiven p item log) → (list_at round lists ≡ Some list → IsGiven p item log) → IsGiven p item log
list_in p item given log lists round list e here earlier = by (round == length lists) e
  where
    by : (same : Bool) → option_and_then (λ (l : Option (List Item)). l) (if same then Some given else from_oldest round lists) ≡ Some list → IsGiven p item log
    by true e = here e
    by false e = earlier e

-- each item of a round's list was given to the crawler
pub item_given : (p : Plan) (item : Item) (log : List Line) (round at : ℕ) (list : List Item) → list_at round (lists_by p log) ≡ Some list → slice_get list at ≡ Some item → IsGiven p item log
item_given p item [] round at list e is = absurd (cc e)
item_given p item (End x said ∷ log) round at list e is = inr (by (x.0 == 17) e (λ earlier. item_given p item log round at list earlier is))
  where
    by : (own : Bool) → list_at round (if own then given_by p (work 17 log) ∷ lists_by p log else lists_by p log) ≡ Some list → (list_at round (lists_by p log) ≡ Some list → IsGiven p item log) → IsGiven p item log
    by true e earlier = list_in p item (given_by p (work 17 log)) log (lists_by p log) round list e (λ here. given_in p item log list here (contains list at item is)) earlier
    by false e earlier = earlier e
item_given p item (Ask a b asked told took ∷ log) round at list e is = inr (item_given p item log round at list e is)
item_given p item (Begin a change ∷ log) round at list e is = inr (item_given p item log round at list e is)
item_given p item (HealBegin a g kind ∷ log) round at list e is = inr (item_given p item log round at list e is)
item_given p item (HealEnd a g kind said ∷ log) round at list e is = inr (item_given p item log round at list e is)
item_given p item (Event event ∷ log) round at list e is = inr (item_given p item log round at list e is)

-- ---- there is a list for each round that has ended, and no more rounds than the plan has
round_left : (p : Plan) (a : ℕ) (line : Line) (log : List Line) → length p.clients ≤ 16 → a ≡ 17 → KeepsToTask true p a line log → ended a log < length (rounds_of p a)
round_left p a line log few who (ToCommand c is k) = absurd (no_script p a (ended a log) c few (omega (arith, who)) is)
round_left p a line log few who (ToRound plain low b is k) = absurd (cc plain)
round_left p a line log few who (ToCrawl crawls first b is k) = slice_get_within (rounds_of p a) (ended a log) b is
round_left p a line log few who (ToItem crawls low item given of) = absurd (omega (arith, who, low))

pub few_lists : (p : Plan) (log : List Line) → length p.clients ≤ 16 → Follows true p log → length (lists_by p log) ≤ length (rounds_of p 17)
few_lists p log few follows = let same = many log in omega (arith, same, most log follows)
  where
    many : (log : List Line) → length (lists_by p log) ≡ ended 17 log
    many [] = refl
    many (End x said ∷ log) = by (x.0 == 17) (many log)
      where
        by : (own : Bool) → length (lists_by p log) ≡ ended 17 log → length (if own then given_by p (work 17 log) ∷ lists_by p log else lists_by p log) ≡ (if own then ended 17 log + 1 else ended 17 log)
        by true same = omega (arith, same)
        by false same = same
    many (Ask a b asked told took ∷ log) = many log
    many (Begin a change ∷ log) = many log
    many (HealBegin a g kind ∷ log) = many log
    many (HealEnd a g kind said ∷ log) = many log
    many (Event event ∷ log) = many log

    most : (log : List Line) → Follows true p log → ended 17 log ≤ length (rounds_of p 17)
    most [] f = omega arith
    most (End x said ∷ log) f = by (x.0 == 17) refl (most log f.1)
      where
        by : (own : Bool) → (x.0 == 17) ≡ own → ended 17 log ≤ length (rounds_of p 17) → (if own then ended 17 log + 1 else ended 17 log) ≤ length (rounds_of p 17)
        by true own k =
            let who : x.0 ≡ 17 = grind (arith, nat_tests, own) in
            let left : ended 17 log < length (rounds_of p 17) = subst (λ (a : ℕ). ended a log < length (rounds_of p a)) who (round_left p x.0 (End x said) log few who f.0.1.0.keeps) in
            omega (arith, left)
        by false own k = k
    most (Ask a b asked told took ∷ log) f = most log f.1
    most (Begin a change ∷ log) f = most log f.1
    most (HealBegin a g kind ∷ log) f = most log f.1
    most (HealEnd a g kind said ∷ log) f = most log f.1
    most (Event event ∷ log) f = most log f.1

pub few_rounds : (crawl : Bool) (p : Plan) (log : List Line) (rounds : List BrickId) → crawl ≡ true → Follows crawl p log → length p.clients ≤ 16 → slice_get p.healers 0 ≡ Some rounds → length (lists_by p log) ≤ length rounds
few_rounds crawl p log rounds crawls follows few is =
    let same : rounds_of p 17 ≡ rounds = get_or_from_slice_get p.healers 0 rounds [] is in
    let most = few_lists p log few (subst (λ (goes : Bool). Follows goes p log) crawls follows) in
    omega (arith, most, ap length same)

-- nor more than the log has lines
pub few_lines : (p : Plan) (log : List Line) → length (lists_by p log) ≤ length log
few_lines p [] = omega arith
few_lines p (line ∷ log) = by (lists_by p (line ∷ log)) (lists_grow p line log) (few_lines p log)
  where
    by : (lists : Lists) → Grows (lists_by p log) lists → length (lists_by p log) ≤ length log → length lists ≤ length (line ∷ log)
    by _ Stays k = omega (arith, k)
    by _ (More list) k = omega (arith, k)
