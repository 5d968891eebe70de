-- The bricks that missed an operation, both ways.
use Rattle.std.proofs.Common.{◌≡◌, ℕ, ◌+◌, ◌<◌, ◌==◌, List, [], ◌∷◌, ◌++◌, Option, Some, None, refl, sym, ap, subst, ◌∙◌, codes, Bool, true, false, cond, not, nat_lt, arith, filter}
use Rattle.std.specs.List.{list_all}
use Rattle.std.proofs.lemmas.Bool.Decides.{nat_tests}
use Rattle.std.proofs.lemmas.Fmt.{decimal_digit}
use Rattle.std.proofs.lemmas.Bool.{not-true}
use Rattle.afr_base.specs.Bricks.{all_five, member, added_if, is_nothing, and_left, and_right}
use Rattle.afr_plan.specs.Reading.{after, word}
use Rattle.afr_plan_read.proofs.Laws.{after_takes, checked_some}
use Rattle.afr_report_trace.specs.Numbers.{bricks_text, commas_from, with_commas}
use Rattle.afr_trace_read.specs.Lists.{flags_of, flagged, brick_word, with_brick, then_brick, front_bricks, some_bricks, listed_bricks, missed_at}
use Rattle.afr_trace_read.proofs.Laws.{Takes, Again, IsSpaced, word-takes, either-takes, second_of}

-- a set of bricks, as the rising list of their numbers
abbrev pub IsBrickSet : List ℕ → Type 0
IsBrickSet s = filter (member s) all_five ≡ s

-- ---- the text of a set, digit by digit
abbrev literal : Bool → List ℕ → List ℕ
literal first [] = []
literal first (b ∷ more) = brick_word first b ++ literal false more

abbrev is_digit : ℕ → Bool
is_digit b = nat_lt b 10

literal_is : (first : Bool) (s : List ℕ) → list_all is_digit s ≡ true → commas_from first s ≡ literal first s
literal_is first [] h = refl
literal_is first (b ∷ bs) h =
    let t : is_digit b ≡ true = and_left (is_digit b) (list_all is_digit bs) h in
    let l : b < 10 = grind (arith, nat_tests, t) in
    rw (decimal_digit b l, literal_is false bs (and_right (is_digit b) (list_all is_digit bs) h)) refl

kept_all : (q p : ℕ → Bool) (xs : List ℕ) → list_all q xs ≡ true → list_all q (filter p xs) ≡ true
kept_all q p [] h = refl
kept_all q p (x ∷ xs) h = step (p x) (and_left (q x) (list_all q xs) h) (kept_all q p xs (and_right (q x) (list_all q xs) h))
  where
    step : (b : Bool) → q x ≡ true → list_all q (filter p xs) ≡ true → list_all q (cond b (x ∷ filter p xs) (filter p xs)) ≡ true
    step true here later = rw (here, later) refl
    step false here later = later

set_text : (s : List ℕ) → is_nothing s ≡ false → IsBrickSet s → bricks_text s ≡ literal true s
set_text [] h k = absurd (cc)
set_text (b ∷ bs) h k =
    let small : list_all is_digit (b ∷ bs) ≡ true = subst (λ (t : List ℕ). list_all is_digit t ≡ true) k (kept_all is_digit (member (b ∷ bs)) all_five refl) in
    ap with_commas k ∙ literal_is true (b ∷ bs) small

-- ---- brick by brick
abbrev taken : Bool → Bool → ℕ → List ℕ
taken f first b = cond f (brick_word first b) []

one : (b : ℕ) (s xs : List ℕ) → (f : Bool) × ((then_brick b (s, xs)).0 ≡ added_if f b s) × (xs ≡ taken f (is_nothing s) b ++ (then_brick b (s, xs)).1)
one b s xs = step (after (brick_word (is_nothing s) b) xs) refl
  where
    step : (o : Option (List ℕ)) → after (brick_word (is_nothing s) b) xs ≡ o → (f : Bool) × ((with_brick b (s, xs) o).0 ≡ added_if f b s) × (xs ≡ taken f (is_nothing s) b ++ (with_brick b (s, xs) o).1)
    step None e = (false, refl, refl)
    step (Some rest) e = (true, refl, after_takes (brick_word (is_nothing s) b) xs rest e)

at_set : (b : ℕ) (x : List ℕ × List ℕ) (s : List ℕ) → x.0 ≡ s → (f : Bool) × ((then_brick b x).0 ≡ added_if f b s) × (x.1 ≡ taken f (is_nothing s) b ++ (then_brick b x).1)
at_set b x s h = subst (λ (t : List ℕ). (f : Bool) × ((then_brick b x).0 ≡ added_if f b t) × (x.1 ≡ taken f (is_nothing t) b ++ (then_brick b x).1)) h (one b x.0 x.1)

abbrev one_of : Bool → List ℕ
one_of a = added_if a 0 []

abbrev two_of : Bool → Bool → List ℕ
two_of a b = added_if b 1 (one_of a)

abbrev three_of : Bool → Bool → Bool → List ℕ
three_of a b c = added_if c 2 (two_of a b)

abbrev four_of : Bool → Bool → Bool → Bool → List ℕ
four_of a b c d = added_if d 3 (three_of a b c)

abbrev five_of : Bool → Bool → Bool → Bool → Bool → List ℕ
five_of a b c d e = added_if e 4 (four_of a b c d)

abbrev parts : Bool → Bool → Bool → Bool → Bool → List ℕ → List ℕ
parts a b c d e r = taken a true 0 ++ (taken b (is_nothing (one_of a)) 1 ++ (taken c (is_nothing (two_of a b)) 2 ++ (taken d (is_nothing (three_of a b c)) 3 ++ (taken e (is_nothing (four_of a b c d)) 4 ++ r))))

abbrev kept : Bool → ℕ → List ℕ → List ℕ
kept f b more = cond f (b ∷ more) more

-- the bricks of all five whose flags are set
abbrev chosen : Bool → Bool → Bool → Bool → Bool → List ℕ
chosen a b c d e = kept a 0 (kept b 1 (kept c 2 (kept d 3 (kept e 4 []))))

leaf : (a b c d e : Bool) (r : List ℕ) → (five_of a b c d e ≡ chosen a b c d e) × IsBrickSet (chosen a b c d e) × (parts a b c d e r ≡ literal true (chosen a b c d e) ++ r)
    × (front_bricks (literal true (chosen a b c d e) ++ 32 ∷ r) ≡ (chosen a b c d e, 32 ∷ r)) × (flags_of (chosen a b c d e) ≡ a ∷ b ∷ c ∷ d ∷ e ∷ [])
leaf true true true true true r = (refl, refl, refl, refl, refl)
leaf true true true true false r = (refl, refl, refl, refl, refl)
leaf true true true false true r = (refl, refl, refl, refl, refl)
leaf true true true false false r = (refl, refl, refl, refl, refl)
leaf true true false true true r = (refl, refl, refl, refl, refl)
leaf true true false true false r = (refl, refl, refl, refl, refl)
leaf true true false false true r = (refl, refl, refl, refl, refl)
leaf true true false false false r = (refl, refl, refl, refl, refl)
leaf true false true true true r = (refl, refl, refl, refl, refl)
leaf true false true true false r = (refl, refl, refl, refl, refl)
leaf true false true false true r = (refl, refl, refl, refl, refl)
leaf true false true false false r = (refl, refl, refl, refl, refl)
leaf true false false true true r = (refl, refl, refl, refl, refl)
leaf true false false true false r = (refl, refl, refl, refl, refl)
leaf true false false false true r = (refl, refl, refl, refl, refl)
leaf true false false false false r = (refl, refl, refl, refl, refl)
leaf false true true true true r = (refl, refl, refl, refl, refl)
leaf false true true true false r = (refl, refl, refl, refl, refl)
leaf false true true false true r = (refl, refl, refl, refl, refl)
leaf false true true false false r = (refl, refl, refl, refl, refl)
leaf false true false true true r = (refl, refl, refl, refl, refl)
leaf false true false true false r = (refl, refl, refl, refl, refl)
leaf false true false false true r = (refl, refl, refl, refl, refl)
leaf false true false false false r = (refl, refl, refl, refl, refl)
leaf false false true true true r = (refl, refl, refl, refl, refl)
leaf false false true true false r = (refl, refl, refl, refl, refl)
leaf false false true false true r = (refl, refl, refl, refl, refl)
leaf false false true false false r = (refl, refl, refl, refl, refl)
leaf false false false true true r = (refl, refl, refl, refl, refl)
leaf false false false true false r = (refl, refl, refl, refl, refl)
leaf false false false false true r = (refl, refl, refl, refl, refl)
leaf false false false false false r = (refl, refl, refl, refl, refl)

front_read : (xs : List ℕ) → IsBrickSet (front_bricks xs).0 × (xs ≡ literal true (front_bricks xs).0 ++ (front_bricks xs).1)
front_read xs =
    let a = at_set 0 ([], xs) [] refl in
    let x1 : List ℕ × List ℕ = then_brick 0 ([], xs) in
    let b = at_set 1 x1 (one_of a.0) a.1 in
    let x2 : List ℕ × List ℕ = then_brick 1 x1 in
    let c = at_set 2 x2 (two_of a.0 b.0) b.1 in
    let x3 : List ℕ × List ℕ = then_brick 2 x2 in
    let d = at_set 3 x3 (three_of a.0 b.0 c.0) c.1 in
    let x4 : List ℕ × List ℕ = then_brick 3 x3 in
    let e = at_set 4 x4 (four_of a.0 b.0 c.0 d.0) d.1 in
    let rest : List ℕ = (then_brick 4 x4).1 in
    let l = leaf a.0 b.0 c.0 d.0 e.0 rest in
    let there : (front_bricks xs).0 ≡ chosen a.0 b.0 c.0 d.0 e.0 = e.1 ∙ l.0 in
    let same : chosen a.0 b.0 c.0 d.0 e.0 ≡ (front_bricks xs).0 = sym there in
    let text : xs ≡ parts a.0 b.0 c.0 d.0 e.0 rest = a.2 ∙ ap (λ (t : List ℕ). taken a.0 true 0 ++ t)
    (b.2 ∙ ap (λ (t : List ℕ). taken b.0 (is_nothing (one_of a.0)) 1 ++ t)
    (c.2 ∙ ap (λ (t : List ℕ). taken c.0 (is_nothing (two_of a.0 b.0)) 2 ++ t)
    (d.2 ∙ ap (λ (t : List ℕ). taken d.0 (is_nothing (three_of a.0 b.0 c.0)) 3 ++ t) e.2))) in
    (subst (λ (s : List ℕ). IsBrickSet s) same l.1, text ∙ l.2 ∙ ap (λ (s : List ℕ). literal true s ++ rest) same)

listed-takes : Takes listed_bricks bricks_text IsBrickSet
listed-takes = record {
  read = λ xs s rest e.
      let c = checked_some (not (is_nothing (front_bricks xs).0)) (front_bricks xs) (s, rest) e in
      let some : is_nothing (front_bricks xs).0 ≡ false = not-true (is_nothing (front_bricks xs).0) c.0 in
      let u = front_read xs in
      let P : List ℕ × List ℕ → Type 0 = λ z. IsBrickSet z.0 × (xs ≡ bricks_text z.0 ++ z.1) in
      subst P c.1 (u.0, u.1 ∙ ap (λ (t : List ℕ). t ++ (front_bricks xs).1) (sym (set_text (front_bricks xs).0 some u.0)));
}

pub missed-takes : Takes missed_at bricks_text IsBrickSet
unfolding missed_at
missed-takes = either-takes _ _ _ _ (word-takes (codes "-") [] _ _ refl refl) listed-takes

no_dash : (b : ℕ) (more rest : List ℕ) → word {A = List ℕ} (codes "-") [] (literal true (b ∷ more) ++ rest) ≡ None
no_dash b more rest = let e : (45 == 48 + b) ≡ false = grind (arith, nat_tests) in rw e refl

pub set_commas : (s : List ℕ) → is_nothing s ≡ false → IsBrickSet s → with_commas s ≡ bricks_text s
set_commas [] h k = absurd (cc)
set_commas (b ∷ bs) h k = ap with_commas (sym k)

-- five flags are those of the bricks whose flags are set
pub flags_again : (a b c d e : Bool) → IsBrickSet (flagged 0 (a ∷ b ∷ c ∷ d ∷ e ∷ [])) × (flags_of (flagged 0 (a ∷ b ∷ c ∷ d ∷ e ∷ [])) ≡ a ∷ b ∷ c ∷ d ∷ e ∷ [])
flags_again a b c d e = let l = leaf a b c d e [] in (l.1, l.4)

pub five_is_set : (s : List ℕ) → IsBrickSet (filter (member s) all_five)
five_is_set s = (leaf (member s 0) (member s 1) (member s 2) (member s 3) (member s 4) []).1

front_again : (s xs : List ℕ) → IsBrickSet s → front_bricks (literal true s ++ 32 ∷ xs) ≡ (s, 32 ∷ xs)
front_again s xs k =
    let same : chosen (member s 0) (member s 1) (member s 2) (member s 3) (member s 4) ≡ s = k in
    subst (λ (t : List ℕ). front_bricks (literal true t ++ 32 ∷ xs) ≡ (t, 32 ∷ xs)) same (leaf (member s 0) (member s 1) (member s 2) (member s 3) (member s 4) xs).3

some_again : (b : ℕ) (bs xs : List ℕ) → IsBrickSet (b ∷ bs) → missed_at (literal true (b ∷ bs) ++ 32 ∷ xs) ≡ Some (b ∷ bs, 32 ∷ xs)
unfolding missed_at
some_again b bs xs k = second_of _ _ _ (no_dash b bs (32 ∷ xs)) (ap some_bricks (front_again (b ∷ bs) xs k))

none_again : (rest : List ℕ) → missed_at (codes "-" ++ rest) ≡ Some ([], rest)
unfolding missed_at
none_again rest = refl

read_missed : (s rest : List ℕ) → IsBrickSet s → IsSpaced rest → missed_at (bricks_text s ++ rest) ≡ Some (s, rest)
read_missed s [] k n = absurd n
read_missed [] (x ∷ xs) k n = none_again (x ∷ xs)
read_missed (b ∷ bs) (x ∷ xs) k n =
    ap (λ (t : List ℕ). missed_at (t ++ x ∷ xs)) (set_text (b ∷ bs) refl k)
    ∙ subst (λ (y : ℕ). missed_at (literal true (b ∷ bs) ++ y ∷ xs) ≡ Some (b ∷ bs, y ∷ xs)) (sym n) (some_again b bs xs k)

pub missed-again : Again missed_at bricks_text IsBrickSet IsSpaced
missed-again = record { read = read_missed }
