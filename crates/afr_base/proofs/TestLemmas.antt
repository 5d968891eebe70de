-- What tests of numbers and of two tests together decide.
use Rattle.std.proofs.Common.{◌≡◌, ℕ, zero, suc, ◌<◌, ◌&&◌, ◌||◌, not, ◌==◌, nat_lt, Bool, true, false, refl, sym, ap, arith, ◌⊎◌}
use Rattle.std.proofs.lemmas.Bool.Decides.{nat_tests}
use Rattle.std.specs.Prelude.{Some}

-- ---- numbers
pub same_number : (n : ℕ) → (n == n) ≡ true
same_number n = grind (arith, nat_tests)

pub other_number : (a b : ℕ) → a < b → (a == b) ≡ false
other_number a b h = grind (arith, nat_tests)

pub not_below_itself : (n : ℕ) → nat_lt n n ≡ false
not_below_itself n = grind (arith, nat_tests)

pub below_or_last : (x n : ℕ) → x < suc n → (x < n) ⊎ (x ≡ n)
below_or_last x n h = grind (arith, h)

-- ---- two tests
pub or_more : (a b c : Bool) → (b ≡ true → c ≡ true) → (a || b) ≡ true → (a || c) ≡ true
or_more true b c more e = refl
or_more false b c more e = more e

pub or_second : (a b : Bool) → a ≡ false → (a || b) ≡ true → b ≡ true
or_second true b off e = absurd (cc off)
or_second false b off e = e

pub or_first : (a b : Bool) → b ≡ false → (a || b) ≡ true → a ≡ true
or_first true b off e = refl
or_first false b off e = absurd (cc (off, e))

pub neither_second : (a b : Bool) → (a || b) ≡ false → b ≡ false
neither_second true b e = absurd (cc e)
neither_second false b e = e

pub neither_first : (a b : Bool) → (a || b) ≡ false → a ≡ false
neither_first true b e = absurd (cc e)
neither_first false b e = refl

pub and_not : (a b : Bool) → b ≡ true → (a && not b) ≡ false
and_not true b e = ap not e
and_not false b e = refl

pub unless_then : (a b : Bool) → (not a && b) ≡ true → b ≡ true
unless_then true b e = absurd (cc e)
unless_then false b e = e

pub and_swapped : (a b : Bool) → (a && b) ≡ (b && a)
and_swapped true true = refl
and_swapped true false = refl
and_swapped false true = refl
and_swapped false false = refl

pub same_test : (x y : Bool) → (x ≡ true → y ≡ true) → (y ≡ true → x ≡ true) → x ≡ y
same_test true y f g = sym (f refl)
same_test false true f g = g refl
same_test false false f g = refl

-- ---- values that are there
pub one_value : {A : Type 0} → (x y : A) → Some x ≡ Some y → x ≡ y
one_value x y e = cc e
