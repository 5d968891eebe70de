-- How a log is shown to skip nothing: what is to hold of each object and each area is computed for those that its lines name.
use Rattle.std.specs.Prelude.{◌≡◌, ℕ, ◌==◌, ◌&&◌, ◌||◌, not, Bool, true, false, List, [], ◌∷◌, Option, Some, None, refl}
use Rattle.std.proofs.Common.{subst, sym, ap}
use Rattle.std.proofs.lemmas.Bool.{eqb-true}
use Rattle.std.specs.List.{list_all}
use Rattle.afr_base.specs.Bricks.{is_nothing, member, minus, passes_below, from_table, and_left, and_right}
use Rattle.afr_base.specs.Majority.{is_majority}
use Rattle.afr_base.specs.declared.ids.Gfid.{Gfid}
use Rattle.afr_base.specs.declared.ids.NameId.{NameId}
use Rattle.afr_base.proofs.TestLemmas.{or_more, or_second}
use Rattle.afr_lines.specs.Areas.{object_of_area}
use Rattle.afr_lines.specs.Overlap.{same_area}
use Rattle.afr_lines.specs.Work.{Work}
use Rattle.afr_lines.specs.declared.line.Line.{Line}
use Rattle.afr_lines.specs.declared.line.Line.TheVariants.{Ask}
use Rattle.afr_lines.specs.declared.request.Area.{Area}
use Rattle.afr_lines.specs.declared.request.Area.TheVariants.{Range, Name}
use Rattle.afr_lines.specs.declared.request.Request.TheVariants as request
use Rattle.afr_lines.specs.declared.lock.Domain.TheVariants.{Work as WorkDomain}
use Rattle.afr_model.specs.Showing.{among, has, locks, looking, looks_at}
use Rattle.afr_model.specs.Skipped.{IsLocked, IsLooked, is_whole}
use Rattle.afr_model.specs.Standing.{asking, getting, locks_area}
use Rattle.afr_test_model.proofs.Means.{all_in, fails}
use Rattle.afr_test_model.proofs.Words.{object}

-- ---- objects
-- the numbers of the objects that a work looked at
abbrev pub look_number : Line → List ℕ → List ℕ
look_number (Ask a b (request.Look g) told took) s = g.0 ∷ s
look_number line s = s

-- the same of all lines
abbrev pub look_numbers : Work → List ℕ
look_numbers [] = []
look_numbers (x ∷ w) = look_number x.0 (look_numbers w)

-- a line that looks at an object has its number
numbered_step : (line : Line) (of : Gfid) (s : List ℕ) (rest : Bool) → (rest ≡ true → member s of.0 ≡ true) → (looks_at of line || rest) ≡ true → member (look_number line s) of.0 ≡ true
numbered_step (Ask a b (request.Look g) told took) of s rest more either = or_more (g.0 == of.0) rest (member s of.0) more either
numbered_step line of s rest more either = more either

-- so has a work that looks at it
numbered : (of : Gfid) (w : Work) → has (looks_at of) w ≡ true → member (look_numbers w) of.0 ≡ true
numbered of [] looks = looks
numbered of (x ∷ w) looks = numbered_step x.0 of (look_numbers w) (has (looks_at of) w) (numbered of w) looks

-- a test that all members pass
pub from_members : (test : ℕ → Bool) (s : List ℕ) → list_all test s ≡ true → (k : ℕ) → member s k ≡ true → test k ≡ true
from_members test [] all k among = absurd (cc among)
from_members test (x ∷ s) all k among = here (from_members test s (and_right (test x) (list_all test s) all) k) (x == k) refl among
  where
    here : (member s k ≡ true → test k ≡ true) → (same : Bool) → (x == k) ≡ same → (same || member s k) ≡ true → test k ≡ true
    here more true equal either = subst (λ (y : ℕ). test y ≡ true) (eqb-true x k equal) (and_left (test x) (list_all test s) all)
    here more false equal either = more either

-- the object was locked, or looked at on every brick
abbrev pub is_looked_at : ℕ → Work → ℕ → Bool
is_looked_at n w number = has (locks (object number)) w || passes_below n (member (among (looking (object number)) w))

-- where that is so of each object that a line looks at, every brick was looked at
pub all_looked : (n : ℕ) (w : Work) → list_all (is_looked_at n w) (look_numbers w) ≡ true → IsLooked n w
all_looked n w all g looks free b below =
    from_table n (member (among (looking g) w)) (or_second (has (locks g) w) (passes_below n (member (among (looking g) w))) free (from_members (is_looked_at n w) (look_numbers w) all g.0 (numbered g w looks))) b below

-- ---- areas
-- the areas that a work locked
abbrev pub lock_area : Line → List Area → List Area
lock_area (Ask a b (request.Lock WorkDomain area) told took) areas = area ∷ areas
lock_area line areas = areas

-- the same of all lines
abbrev pub lock_areas : Work → List Area
lock_areas [] = []
lock_areas (x ∷ w) = lock_area x.0 (lock_areas w)

-- numbers that a test calls the same are the same
same_number : (x y : ℕ) → (x == y) ≡ true → x ≡ y
same_number x y equal = eqb-true x y equal

-- an area of bytes by its numbers
abbrev range_of : ℕ → ℕ → ℕ → Area
range_of g from to = Range (object g) from to

-- an area of names by its numbers
abbrev name_of : ℕ → Option NameId → Area
name_of g name = Name (object g) name

-- areas that a test calls the same are the same
same_area_is : (a b : Area) → same_area a b ≡ true → a ≡ b
same_area_is (Range g from to) (Range h start stop) e =
    let first : ((g.0 == h.0) && (from == start)) ≡ true = and_left ((g.0 == h.0) && (from == start)) (to == stop) e in
    three g.0 h.0 from start to stop (and_left (g.0 == h.0) (from == start) first) (and_right (g.0 == h.0) (from == start) first) (and_right ((g.0 == h.0) && (from == start)) (to == stop) e)
  where
    three : (g h from start to stop : ℕ) → (g == h) ≡ true → (from == start) ≡ true → (to == stop) ≡ true → range_of g from to ≡ range_of h start stop
    three g h from start to stop of first last = λ i. range_of (same_number g h of i) (same_number from start first i) (same_number to stop last i)
same_area_is (Name g None) (Name h None) e = two g.0 h.0 (and_left (g.0 == h.0) true e)
  where
    two : (g h : ℕ) → (g == h) ≡ true → name_of g None ≡ name_of h None
    two g h of = λ i. name_of (same_number g h of i) None
same_area_is (Name g (Some n)) (Name h (Some m)) e = two g.0 h.0 n.0 m.0 (and_left (g.0 == h.0) (n.0 == m.0) e) (and_right (g.0 == h.0) (n.0 == m.0) e)
  where
    two : (g h n m : ℕ) → (g == h) ≡ true → (n == m) ≡ true → name_of g (Some (record { 0 = n })) ≡ name_of h (Some (record { 0 = m }))
    two g h n m of name = λ i. name_of (same_number g h of i) (Some (record { 0 = same_number n m name i }))
same_area_is (Range g from to) (Name h name) e = absurd (cc e)
same_area_is (Name g None) (Range h start stop) e = absurd (cc e)
same_area_is (Name g (Some n)) (Range h start stop) e = absurd (cc e)
same_area_is (Name g None) (Name h (Some m)) e = fails (and_right (g.0 == h.0) false e)
same_area_is (Name g (Some n)) (Name h None) e = fails (and_right (g.0 == h.0) false e)

-- a line that locks an area has it among its areas, and so the area passes
area_step : (test : Area → Bool) (line : Line) (areas : List Area) (area : Area) (rest : Bool) → (list_all test areas ≡ true → rest ≡ true → test area ≡ true)
    → list_all test (lock_area line areas) ≡ true → (locks_area area line || rest) ≡ true → test area ≡ true
area_step test (Ask a b (request.Lock WorkDomain other) told took) areas area rest more all either = here (same_area area other) refl either
  where
    here : (same : Bool) → same_area area other ≡ same → (same || rest) ≡ true → test area ≡ true
    here true equal one = subst (λ (it : Area). test it ≡ true) (sym (same_area_is area other equal)) (and_left (test other) (list_all test areas) all)
    here false equal one = more (and_right (test other) (list_all test areas) all) one
area_step test line areas area rest more all either = more all either

-- a test that the areas of all lines pass
from_areas : (test : Area → Bool) (w : Work) → list_all test (lock_areas w) ≡ true → (area : Area) → has (locks_area area) w ≡ true → test area ≡ true
from_areas test [] all area locked = fails locked
from_areas test (x ∷ w) all area locked = area_step test x.0 (lock_areas w) area (has (locks_area area) w) (λ each more. from_areas test w each area more) all locked

-- every brick was asked for the area, and, where a majority granted it, each that did was looked at
abbrev pub is_locked_at : ℕ → Work → Area → Bool
is_locked_at n w area = is_whole area || (passes_below n (member (among (asking area) w)) && (not (is_majority n (among (getting area) w)) || is_nothing (minus (among (getting area) w) (among (looking (object_of_area area)) w))))

-- where that is so of each area that a line locks, every area was locked as it should
pub all_locked : (n : ℕ) (w : Work) → list_all (is_locked_at n w) (lock_areas w) ≡ true → (area : Area) → is_whole area ≡ false → has (locks_area area) w ≡ true → IsLocked n w area
all_locked n w each area part locked = record {
  all = λ b below. from_table n (member (among (asking area) w)) (and_left _ _ both) b below;
  looked = λ most b got. all_in (among (getting area) w) (among (looking (object_of_area area)) w) (or_second (not (is_majority n (among (getting area) w))) _ (ap not most) (and_right _ _ both)) b got;
}
  where
    both : (passes_below n (member (among (asking area) w)) && (not (is_majority n (among (getting area) w)) || is_nothing (minus (among (getting area) w) (among (looking (object_of_area area)) w)))) ≡ true
    both = or_second (is_whole area) _ part (from_areas (is_locked_at n w) w each area locked)
