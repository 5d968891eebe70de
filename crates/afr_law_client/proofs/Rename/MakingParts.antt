-- The lines of a work by its parts: what each part shows of the whole, and the whole of each part.
use Rattle.std.proofs.Common.{◌≡◌, ℕ, ◌+◌, ◌-◌, ◌||◌, ◌&&◌, nat_le, Bool, true, false, List, [], ◌∷◌, ◌++◌, Option, Some, None, refl, sym, ap, ◌∙◌, arith, if◌then◌else◌}
use Rattle.std.proofs.lemmas.Bool.Decides.{nat_tests}
use Rattle.std.proofs.lemmas.Bool.{or_right, and_from, and_parts}
use Rattle.std.proofs.Math.Bool.{and-false, or-false}
use Rattle.afr_lines.specs.Log.{change_of}
use Rattle.afr_lines.specs.Work.{Work}
use Rattle.afr_lines.specs.declared.line.Line.{Line}
use Rattle.afr_object.specs.declared.change.Change.{Change}
use Rattle.afr_model.specs.Parts.{is_again, names_asked, second_part, unlocks_any, upto_names}
use Rattle.afr_model.specs.Showing.{among, begins_attempt, has, is_faulted, tells_fault}
use Rattle.afr_model.specs.Standing.{asks_name, change_after, change_by, locks_any}

-- ---- tests
pub or_left : (x y : Bool) → x ≡ true → (x || y) ≡ true
or_left true y e = refl
or_left false y e = absurd (cc e)

-- some line of one part or of the other passes
pub has_append : (test : Line → Bool) (s u : Work) → has test (s ++ u) ≡ (has test s || has test u)
has_append test [] u = refl
has_append test (x ∷ s) u = ap (λ (y : Bool). test x.0 || y) (has_append test s u) ∙ go (test x.0)
  where
    go : (t : Bool) → (t || (has test s || has test u)) ≡ ((t || has test s) || has test u)
    go true = refl
    go false = refl

pub has_front : (test : Line → Bool) (s u : Work) → has test u ≡ false → has test (s ++ u) ≡ has test s
has_front test s u e = has_append test s u ∙ ap (λ (y : Bool). has test s || y) e ∙ or-false (has test s)

-- ---- tails
-- what goes over to a work without its last line goes over to what it was at an earlier name
pub tail_upto : (P : Work → Type 0) → ((x : Line × List Line) (w : Work) → P (x ∷ w) → P w) → (j : ℕ) (w : Work) → P w → P (upto_names j w)
tail_upto P drop j [] k = k
tail_upto P drop j (x ∷ w) k = go (tail_upto P drop j w (drop x w k)) (nat_le j (names_asked w))
  where
    go : P (upto_names j w) → (t : Bool) → P (if t then upto_names j w else x ∷ w)
    go shorter true = shorter
    go shorter false = k

-- an earlier name is before a later one
pub upto_twice : (j k : ℕ) (w : Work) → nat_le j k ≡ true → upto_names j (upto_names k w) ≡ upto_names j w
upto_twice j k [] e = refl
upto_twice j k (x ∷ w) e = go (upto_twice j k w e) (nat_le k (names_asked w)) refl
  where
    later : nat_le k (names_asked w) ≡ true → nat_le j (names_asked w) ≡ true
    later f = grind (arith, nat_tests, e, f)

    dropped : nat_le k (names_asked w) ≡ true → upto_names j w ≡ upto_names j (x ∷ w)
    dropped f = let g = later f in rw g refl

    go : upto_names j (upto_names k w) ≡ upto_names j w → (t : Bool) → nat_le k (names_asked w) ≡ t → upto_names j (if t then upto_names k w else x ∷ w) ≡ upto_names j (x ∷ w)
    go rest true f = rest ∙ dropped f
    go rest false f = refl

pub one_less : (k : ℕ) → nat_le (k - 1) k ≡ true
one_less k = grind (arith, nat_tests)

-- lines before those that have asked so many names don't count
asked_behind : (k : ℕ) (s u : Work) → nat_le k (names_asked u) ≡ true → nat_le k (names_asked (s ++ u)) ≡ true
asked_behind k [] u e = e
asked_behind k (y ∷ s) u e = go (asked_behind k s u e) (asks_name y.0)
  where
    go : nat_le k (names_asked (s ++ u)) ≡ true → (t : Bool) → nat_le k (if t then names_asked (s ++ u) + 1 else names_asked (s ++ u)) ≡ true
    go rest true = grind (arith, nat_tests, rest)
    go rest false = rest

pub upto_behind : (k : ℕ) (s u : Work) → nat_le k (names_asked u) ≡ true → upto_names k (s ++ u) ≡ upto_names k u
upto_behind k [] u e = refl
upto_behind k (x ∷ s) u e = let more = asked_behind k s u e in rw more (upto_behind k s u e)

-- ---- folds
-- a fold that finds nothing in the lines before is the part's own
pub among_front : (f : Line → List ℕ → List ℕ) (s u : Work) → among f u ≡ [] → among f (s ++ u) ≡ among f s
among_front f [] u e = e
among_front f (x ∷ s) u e = ap (f x.0) (among_front f s u e)

pub changed_front : (s u : Work) (c : Change) → change_by s ≡ Some c → change_by (s ++ u) ≡ Some c
changed_front [] u c e = absurd (cc e)
changed_front (x ∷ s) u c e = go (λ f. changed_front s u c f) (change_of x.0) e
  where
    go : (change_by s ≡ Some c → change_by (s ++ u) ≡ Some c) → (o : Option Change) → change_after o (change_by s) ≡ Some c → change_after o (change_by (s ++ u)) ≡ Some c
    go rest None f = rest f
    go rest (Some d) f = f

-- ---- faults
or_either : (P : Type 0) (a b : Bool) → (a || b) ≡ true → (a ≡ true → P) → (b ≡ true → P) → P
or_either P true b e f g = f refl
or_either P false b e f g = g e

-- a fault after an attempt of this part, where the lines before it have none, is one of the part
pub fault_in : (s u : Work) → has begins_attempt u ≡ false → is_faulted u ≡ false → is_faulted (s ++ u) ≡ true → has tells_fault s ≡ true
fault_in [] u none calm e = absurd (cc (calm, e))
fault_in (x ∷ s) u none calm e =
    or_either (has tells_fault (x ∷ s) ≡ true) (has begins_attempt (s ++ u) && tells_fault x.0) (is_faulted (s ++ u)) e
    (λ h. or_left (tells_fault x.0) (has tells_fault s) (and_parts (has begins_attempt (s ++ u)) (tells_fault x.0) h).1)
    (λ h. or_right (tells_fault x.0) (has tells_fault s) (fault_in s u none calm h))

pub fault_more : (s t : Work) → is_faulted s ≡ true → is_faulted (s ++ t) ≡ true
fault_more [] t e = absurd (cc e)
fault_more (x ∷ s) t e =
    or_either (is_faulted ((x ∷ s) ++ t) ≡ true) (has begins_attempt s && tells_fault x.0) (is_faulted s) e
    (λ h. now (and_parts (has begins_attempt s) (tells_fault x.0) h))
    (λ h. or_right (has begins_attempt (s ++ t) && tells_fault x.0) (is_faulted (s ++ t)) (fault_more s t h))
  where
    now : (has begins_attempt s ≡ true) × (tells_fault x.0 ≡ true) → is_faulted ((x ∷ s) ++ t) ≡ true
    now h =
        or_left (has begins_attempt (s ++ t) && tells_fault x.0) (is_faulted (s ++ t))
        (and_from (has begins_attempt (s ++ t)) (tells_fault x.0) (has_append begins_attempt s t ∙ or_left (has begins_attempt s) (has begins_attempt t) h.0) h.1)

-- where the lines before it have neither an attempt nor a fault, its faults are its own
pub fault_own : (s u : Work) → has begins_attempt u ≡ false → is_faulted u ≡ false → is_faulted (s ++ u) ≡ true → is_faulted s ≡ true
fault_own [] u none calm e = absurd (cc (calm, e))
fault_own (x ∷ s) u none calm e =
    or_either (is_faulted (x ∷ s) ≡ true) (has begins_attempt (s ++ u) && tells_fault x.0) (is_faulted (s ++ u)) e
    (λ h. or_left (has begins_attempt s && tells_fault x.0) (is_faulted s) (now (and_parts (has begins_attempt (s ++ u)) (tells_fault x.0) h)))
    (λ h. or_right (has begins_attempt s && tells_fault x.0) (is_faulted s) (fault_own s u none calm h))
  where
    now : (has begins_attempt (s ++ u) ≡ true) × (tells_fault x.0 ≡ true) → (has begins_attempt s && tells_fault x.0) ≡ true
    now h = and_from (has begins_attempt s) (tells_fault x.0) (sym (has_front begins_attempt s u none) ∙ h.0) h.1

-- ---- the second transaction
-- before it, a line begins it only as a lock after an unlock
pub again_by : (line : Line) (w : Work) → second_part w ≡ [] → is_again line w ≡ (locks_any line && has unlocks_any w)
again_by line [] e = sym (and-false (locks_any line))
again_by line (x ∷ w) e = go (is_again x.0 w) e
  where
    go : (again : Bool) → (if again then x ∷ second_part w else []) ≡ [] → ((locks_any line && has unlocks_any (x ∷ w)) || again) ≡ (locks_any line && has unlocks_any (x ∷ w))
    go true f = absurd (cc f)
    go false f = or-false (locks_any line && has unlocks_any (x ∷ w))

-- once it has begun, each line is of it
pub again_stays : (line : Line) (x : Line × List Line) (w : Work) → is_again x.0 w ≡ true → is_again line (x ∷ w) ≡ true
again_stays line x w e = or_right (locks_any line && has unlocks_any (x ∷ w)) (is_again x.0 w) e
