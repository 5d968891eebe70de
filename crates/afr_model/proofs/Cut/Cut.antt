-- How one line more is cut: to which part of a rename's work it goes, and that the other parts stay.
use Rattle.std.proofs.Common.{◌≡◌, ℕ, ◌+◌, ◌-◌, ◌≤◌, ◌&&◌, ◌||◌, nat_le, Bool, true, false, List, [], ◌∷◌, ◌++◌, length, refl, sym, ap, ◌∙◌, arith, if◌then◌else◌, true≢false}
use Rattle.std.proofs.lemmas.Bool.Decides.{nat_tests}
use Rattle.afr_base.specs.declared.ids.NameId.{NameId}
use Rattle.afr_base.proofs.TestLemmas.{neither_second}
use Rattle.afr_lines.specs.Work.{Work}
use Rattle.afr_lines.specs.declared.line.Line.{Line}
use Rattle.afr_model.specs.Parts.{after_names, first_part, is_again, names_asked, second_part, the_make, the_removal, the_walk, unlocks_any, upto_names}
use Rattle.afr_model.specs.Showing.{has}
use Rattle.afr_model.specs.Standing.{asks_name, locks_any}

-- ---- by the names
-- where the k-th name wasn't asked yet, all lines are up to it
pub upto_all : (k : ℕ) (w : Work) → nat_le k (names_asked w) ≡ false → upto_names k w ≡ w
upto_all k [] e = refl
upto_all k (x ∷ w) e = go (asks_name x.0) e
  where
    by : nat_le k (names_asked w) ≡ false → (if nat_le k (names_asked w) then upto_names k w else x ∷ w) ≡ x ∷ w
    by f = rw f refl

    go : (named : Bool) → nat_le k (if named then names_asked w + 1 else names_asked w) ≡ false → (if nat_le k (names_asked w) then upto_names k w else x ∷ w) ≡ x ∷ w
    go true f = by (grind (arith, nat_tests, f))
    go false f = by f

-- and none is after it
pub after_none : (k : ℕ) (w : Work) → nat_le k (names_asked w) ≡ false → after_names k w ≡ []
after_none k [] e = refl
after_none k (x ∷ w) e = go (asks_name x.0) e
  where
    by : nat_le k (names_asked w) ≡ false → (if nat_le k (names_asked w) then x ∷ after_names k w else []) ≡ []
    by f = rw f refl

    go : (named : Bool) → nat_le k (if named then names_asked w + 1 else names_asked w) ≡ false → (if nat_le k (names_asked w) then x ∷ after_names k w else []) ≡ []
    go true f = by (grind (arith, nat_tests, f))
    go false f = by f

-- a name that was asked stays asked
pub still_asked : (k : ℕ) (x : Line × List Line) (w : Work) → nat_le k (names_asked w) ≡ true → nat_le k (names_asked (x ∷ w)) ≡ true
still_asked k x w e = go (asks_name x.0)
  where
    go : (named : Bool) → nat_le k (if named then names_asked w + 1 else names_asked w) ≡ true
    go true = grind (arith, nat_tests, e)
    go false = e

-- an earlier one too
pub asked_before : (k : ℕ) (w : Work) → nat_le k (names_asked w) ≡ true → nat_le (k - 1) (names_asked w) ≡ true
asked_before k w e = grind (arith, nat_tests, e)

-- after the k-th name a line is none of those up to it
pub upto_more : (k : ℕ) (x : Line × List Line) (w : Work) → nat_le k (names_asked w) ≡ true → upto_names k (x ∷ w) ≡ upto_names k w
upto_more k x w e = rw e refl

-- the lines after a name and those up to it are all
pub names_whole : (k : ℕ) (w : Work) → after_names k w ++ upto_names k w ≡ w
names_whole k [] = refl
names_whole k (x ∷ w) = go (nat_le k (names_asked w)) (names_whole k w)
  where
    go : (late : Bool) → after_names k w ++ upto_names k w ≡ w → (if late then x ∷ after_names k w else []) ++ (if late then upto_names k w else x ∷ w) ≡ x ∷ w
    go true e = ap (λ (v : Work). x ∷ v) e
    go false e = refl

-- what no line up to a name is, no line up to an earlier one is
upto_none : (test : Line → Bool) (k : ℕ) (w : Work) → has test w ≡ false → has test (upto_names k w) ≡ false
upto_none test k [] e = refl
upto_none test k (x ∷ w) e = go (nat_le k (names_asked w)) (λ h. upto_none test k w h)
  where
    go : (late : Bool) → (has test w ≡ false → has test (upto_names k w) ≡ false) → has test (if late then upto_names k w else x ∷ w) ≡ false
    go true rest = rest (neither_second (test x.0) (has test w) e)
    go false rest = e

pub earlier_none : (test : Line → Bool) (j k : ℕ) (w : Work) → j ≤ k → has test (upto_names k w) ≡ false → has test (upto_names j w) ≡ false
earlier_none test j k [] low e = refl
earlier_none test j k (x ∷ w) low e = go (nat_le k (names_asked w)) refl (nat_le j (names_asked w)) refl e (λ h. earlier_none test j k w low h)
  where
    both : (n : ℕ) → nat_le k n ≡ true → nat_le j n ≡ false → ⊥
    both n f g = grind (arith, nat_tests, f, g, low)

    go : (late : Bool) → nat_le k (names_asked w) ≡ late → (soon : Bool) → nat_le j (names_asked w) ≡ soon → has test (if late then upto_names k w else x ∷ w) ≡ false
        → (has test (upto_names k w) ≡ false → has test (upto_names j w) ≡ false) → has test (if soon then upto_names j w else x ∷ w) ≡ false
    go true f true g h rest = rest h
    go true f false g h rest = absurd (both (names_asked w) f g)
    go false f true g h rest = upto_none test j w (neither_second (test x.0) (has test w) h)
    go false f false g h rest = h

-- ---- by the transactions
-- as long as there is no second transaction, all lines are of the first
pub first_all : (w : Work) → second_part w ≡ [] → first_part w ≡ w
first_all [] e = refl
first_all (x ∷ w) e = go (is_again x.0 w) e
  where
    go : (again : Bool) → (if again then x ∷ second_part w else []) ≡ [] → (if again then first_part w else x ∷ w) ≡ x ∷ w
    go true e = absurd (cc e)
    go false e = refl

pub first_more : (x : Line × List Line) (w : Work) → is_again x.0 w ≡ false → first_part (x ∷ w) ≡ x ∷ w
first_more x w e = rw e refl

pub still_first : (x : Line × List Line) (w : Work) → is_again x.0 w ≡ false → second_part (x ∷ w) ≡ []
still_first x w e = rw e refl

pub second_more : (x : Line × List Line) (w : Work) → is_again x.0 w ≡ true → second_part (x ∷ w) ≡ x ∷ second_part w
second_more x w e = rw e refl

-- before a line of the first transaction there is no line of the second
pub no_second : (x : Line) (w : Work) → is_again x w ≡ false → second_part w ≡ []
no_second x [] e = refl
no_second x (y ∷ w) e = go (is_again y.0 w) refl
  where
    go : (again : Bool) → is_again y.0 w ≡ again → (if again then y ∷ second_part w else []) ≡ []
    go true f = absurd (true≢false (sym f ∙ neither_second (locks_any x && has unlocks_any (y ∷ w)) (is_again y.0 w) e))
    go false f = refl

-- the second transaction's lines come after the first's
pub parts_whole : (w : Work) → second_part w ++ first_part w ≡ w
parts_whole [] = refl
parts_whole (x ∷ w) = go (is_again x.0 w) (parts_whole w)
  where
    go : (again : Bool) → second_part w ++ first_part w ≡ w → (if again then x ∷ second_part w else []) ++ (if again then first_part w else x ∷ w) ≡ x ∷ w
    go true e = ap (λ (v : Work). x ∷ v) e
    go false e = refl

-- the first transaction asks no more names than the work
pub first_asks : (w : Work) → names_asked (first_part w) ≤ names_asked w
first_asks [] = omega arith
first_asks (x ∷ w) = go (is_again x.0 w) (asks_name x.0) (first_asks w)
  where
    go : (again named : Bool) → names_asked (first_part w) ≤ names_asked w → names_asked (if again then first_part w else x ∷ w) ≤ names_asked (x ∷ w)
    go true named h = more (asks_name x.0)
      where
        more : (named : Bool) → names_asked (first_part w) ≤ (if named then names_asked w + 1 else names_asked w)
        more true = omega (arith, h)
        more false = h
    go false named h = omega arith

pub first_stays : (x : Line × List Line) (w : Work) → is_again x.0 w ≡ true → first_part (x ∷ w) ≡ first_part w
first_stays x w e = rw e refl

-- ---- the three parts
module _ (from : List NameId) (x : Line × List Line) (w : Work) where
  -- a line of the walk
  pub walk_grows : nat_le (length from) (names_asked w) ≡ false → the_walk from (x ∷ w) ≡ x ∷ the_walk from w
  walk_grows e = rw (e, upto_all (length from) w e) refl

  pub make_waits : nat_le (length from) (names_asked w) ≡ false → is_again x.0 w ≡ false → the_make from (x ∷ w) ≡ []
  make_waits e f = rw (f, e) refl

  -- a line of the making
  pub walk_stays : nat_le (length from) (names_asked w) ≡ true → the_walk from (x ∷ w) ≡ the_walk from w
  walk_stays e = upto_more (length from) x w e

  pub make_grows : nat_le (length from) (names_asked w) ≡ true → second_part w ≡ [] → is_again x.0 w ≡ false → the_make from (x ∷ w) ≡ x ∷ the_make from w
  make_grows e f g = rw (g, e, first_all w f) refl

  -- a line of the removal
  pub make_stays : is_again x.0 w ≡ true → the_make from (x ∷ w) ≡ the_make from w
  make_stays g = ap (after_names (length from)) (first_stays x w g)

  pub removal_grows : nat_le (length from) (names_asked w) ≡ true → is_again x.0 w ≡ true → the_removal from (x ∷ w) ≡ x ∷ the_removal from w
  removal_grows e g = rw (g, asked_before (length from) w e) refl
