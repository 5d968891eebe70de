-- What tests of numbers, kinds and sets of bricks decide.
use Rattle.std.proofs.Common.{◌≡◌, ℕ, zero, suc, ◌<◌, ◌&&◌, ◌||◌, not, ◌==◌, nat_lt, if◌then◌else◌, Bool, true, false, refl, sym, subst, arith, max, ◌⊎◌, inl, inr}
use Rattle.std.proofs.lemmas.Bool.{eqb-true, or_cases, or_left, or_right, and_from}
use Rattle.std.proofs.lemmas.Bool.Decides.{nat_tests}
use Rattle.afr_base.specs.Bricks.{and_left, and_right}
use Rattle.afr_base.specs.Kinds.{same_kind}
use Rattle.afr_base.specs.Majority.{IsMajority, is_most}
use Rattle.afr_base.specs.declared.ids.Kind.{Kind}
use Rattle.afr_base.specs.declared.ids.Kind.TheVariants.{Bytes, Attrs, Names}
use Rattle.afr_base.specs.declared.ids.What.{What}
use Rattle.afr_base.specs.declared.ids.What.TheVariants.{File, Dir}
use Rattle.afr_base.proofs.TestLemmas.{below_or_last}
use Rattle.afr_model_moves.specs.Cells.{what_code}
use Rattle.afr_model_moves.specs.Register.{Finish, Opening, Piece, Step, WorkLocks, all, same_step}
use Rattle.afr_model_moves.specs.Sets.{any, with, without}
use Rattle.afr_model_moves.specs.Note.{put}
use Rattle.std.specs.Prelude.{Option, Some}

-- ---- numbers
pub same_self : (n : ℕ) → (n == n) ≡ true
same_self n = grind (arith, nat_tests)

pub same_no : (p t : ℕ) → p < t → (p == t) ≡ false
same_no p t h = grind (arith, nat_tests)

pub turned : (a b : ℕ) → (a == b) ≡ (b == a)
turned a b = grind (arith, nat_tests)

pub positive : (m : ℕ) → (m ≡ 0 → ⊥) → (q : ℕ) × (m ≡ suc q)
positive zero h = absurd (h refl)
positive (suc q) h = (q, refl)

pub max_cases : (x y : ℕ) → (max x y ≡ x) ⊎ (max x y ≡ y)
max_cases x y = grind arith

pub three_cases : (a b : ℕ) → (a < b) ⊎ (a ≡ b) ⊎ (b < a)
three_cases a b = grind arith

pub first_equal : (g h : ℕ) (y : Bool) → ((g == h) && y) ≡ true → g ≡ h
first_equal g h y e = grind (arith, nat_tests)

pub some_number : (m : ℕ) → (m ≡ 0 → ⊥) → not (m == 0) ≡ true
some_number zero h = absurd (h refl)
some_number (suc m) h = grind (arith, nat_tests)

pub no_number : (m q : ℕ) → (m == 0) ≡ true → m ≡ suc q → ⊥
no_number m q e f = grind (arith, nat_tests)

-- ---- tests of tests
pub pair : (a b : Bool) → a ≡ true → b ≡ true → (a && b) ≡ true
pair true b ha hb = hb
pair false b ha hb = absurd (cc ha)

pub both : (a b : Bool) → (a && b) ≡ true → (a ≡ true) × (b ≡ true)
both true b h = (refl, h)
both false b h = absurd (cc h)

pub deny : (a : Bool) → a ≡ false → not a ≡ true
deny true h = absurd (cc h)
deny false h = refl

pub denied : (a : Bool) → not a ≡ true → a ≡ false
denied true h = absurd (cc h)
denied false h = refl

pub no_or : (a b : Bool) → (a || b) ≡ false → (a ≡ false) × (b ≡ false)
no_or true b h = absurd (cc h)
no_or false b h = (refl, h)

pub lt_test : (a b : ℕ) → a < b → nat_lt a b ≡ true
lt_test a b h = grind (arith, nat_tests, h)

pub four_parts : (x y z w : Bool) → (x && y && z && w) ≡ true → (x ≡ true) × (y ≡ true) × (z ≡ true) × (w ≡ true)
four_parts x y z w e = grind arith

pub three_parts : (x y z : Bool) → (x && y && z) ≡ true → (x ≡ true) × (y ≡ true) × (z ≡ true)
three_parts x y z e = grind arith

-- a choice of true or a test is one of two, a choice of false or a test is both
pub or_choice : (e f : Bool) → (if e then true else f) ≡ (e || f)
or_choice true f = refl
or_choice false f = refl

pub and_choice : (e f : Bool) → (if e then false else f) ≡ (not e && f)
and_choice true f = refl
and_choice false f = refl

-- ---- kinds, steps, and what an object is
pub same_kind_yes : (a b : Kind) → same_kind a b ≡ true → a ≡ b
same_kind_yes Bytes Bytes h = refl
same_kind_yes Attrs Attrs h = refl
same_kind_yes Names Names h = refl
same_kind_yes Bytes Attrs h = absurd (cc h)
same_kind_yes Bytes Names h = absurd (cc h)
same_kind_yes Attrs Bytes h = absurd (cc h)
same_kind_yes Attrs Names h = absurd (cc h)
same_kind_yes Names Bytes h = absurd (cc h)
same_kind_yes Names Attrs h = absurd (cc h)

pub same_kind_self : (kind : Kind) → same_kind kind kind ≡ true
same_kind_self Bytes = refl
same_kind_self Attrs = refl
same_kind_self Names = refl

pub what_same : (x y : What) → what_code x ≡ what_code y → x ≡ y
what_same File File e = refl
what_same Dir Dir e = refl
what_same File Dir e = absurd (omega (arith, e))
what_same Dir File e = absurd (omega (arith, e))

pub what_some : (what : What) → (j : ℕ) × (what_code what ≡ suc j)
what_some File = (0, refl)
what_some Dir = (1, refl)

pub some_what : (what : What) → (what_code what == 0) ≡ false
some_what File = refl
some_what Dir = refl

pub work_locks : (step : Step) → same_step step WorkLocks ≡ true → step ≡ WorkLocks
work_locks WorkLocks h = refl
work_locks _ h = absurd (cc h)

pub next_not_opening : (last : Bool) → (if last then Finish else Piece) ≡ Opening → ⊥
next_not_opening true e = cc e
next_not_opening false e = cc e

-- ---- what is put in a place
pub put_read : (f : ℕ → Option ℕ) (b x p : ℕ) (new : Option ℕ) → put f b new x ≡ Some p → ((x ≡ b) × (new ≡ Some p)) ⊎ (f x ≡ Some p)
put_read f b x p new e = go (x == b) refl e
  where
    go : (hit : Bool) → (x == b) ≡ hit → (if hit then new else f x) ≡ Some p → ((x ≡ b) × (new ≡ Some p)) ⊎ (f x ≡ Some p)
    go true k l = inl (eqb-true x b k, l)
    go false k l = inr l

-- ---- sets
pub with_more : (set : ℕ → Bool) (b x : ℕ) → set x ≡ true → with set b x ≡ true
with_more set b x h = grind (arith, nat_tests)

pub with_self : (set : ℕ → Bool) (b : ℕ) → with set b b ≡ true
with_self set b = grind (arith, nat_tests)

pub with_cases : (set : ℕ → Bool) (b x : ℕ) → with set b x ≡ true → (x ≡ b) ⊎ (set x ≡ true)
with_cases set b x h = grind (arith, nat_tests)

pub with_false : (set : ℕ → Bool) (b x : ℕ) → with set b x ≡ false → (x ≡ b → ⊥) × (set x ≡ false)
with_false set b x h = grind (arith, nat_tests)

pub without_in : (set : ℕ → Bool) (b x : ℕ) → without set b x ≡ true → set x ≡ true
without_in set b x h = grind (arith, nat_tests)

-- ---- most, some and all of the bricks
pub most_yes : (n : ℕ) (p : ℕ → Bool) → is_most n p ≡ true → IsMajority n p
most_yes n p h = grind (arith, nat_tests, h)

pub most_no : (n : ℕ) (p : ℕ → Bool) → IsMajority n p → is_most n p ≡ true
most_no n p h = grind (arith, nat_tests, h)

pub some_yes : (n : ℕ) (p : ℕ → Bool) → any n p ≡ true → (s : ℕ) × (s < n) × (p s ≡ true)
some_yes zero p h = absurd (cc h)
some_yes (suc n) p h = elim (or_cases (p n) (any n p) h) [
  | inl here ↦ (n, omega arith, here)
  | inr rest ↦ (let w = some_yes n p rest in (w.0, omega (arith, w.1), w.2))
]

pub some_no : (n : ℕ) (p : ℕ → Bool) (s : ℕ) → s < n → p s ≡ true → any n p ≡ true
some_no zero p s l h = absurd (omega arith)
some_no (suc n) p s l h = elim (below_or_last s n l) [
  | inl before ↦ or_right (p n) (any n p) (some_no n p s before h)
  | inr here ↦ or_left (p n) (any n p) (subst (λ (k : ℕ). p k ≡ true) here h)
]

pub all_yes : (n : ℕ) (p : ℕ → Bool) → all n p ≡ true → (x : ℕ) → x < n → p x ≡ true
all_yes zero p h x l = absurd (omega arith)
all_yes (suc n) p h x l = elim (below_or_last x n l) [
  | inl before ↦ all_yes n p (and_right (p n) (all n p) h) x before
  | inr here ↦ subst (λ (k : ℕ). p k ≡ true) (sym here) (and_left (p n) (all n p) h)
]

pub all_no : (n : ℕ) (p : ℕ → Bool) → ((x : ℕ) → x < n → p x ≡ true) → all n p ≡ true
all_no zero p h = refl
all_no (suc n) p h = and_from (p n) (all n p) (h n (omega arith)) (all_no n p (λ x l. h x (omega (arith, l))))
