-- Numbers below a bound: what is read is what is printed.
use Rattle.std.proofs.Common.{◌≡◌, ℕ, ◌+◌, ◌*◌, ◌/◌, ◌%◌, ◌<◌, ◌≤◌, ◌^◌, List, [], ◌∷◌, ◌++◌, length, take, drop, get_or, Some, None, refl, sym, ap, subst, ◌∙◌, arith, Bool, true, false, ◌==◌, not, nat_lt, zero, suc, append_assoc, take_while, length-append}
use Rattle.std.specs.Prelude.{decimal}
use Rattle.std.specs.Char.{digit_value}
use Rattle.std.specs.Str.Parse.{AllDigits, digits_value, digits_value_after}
use Rattle.std.specs.List.{list_all}
use Rattle.std.proofs.lemmas.List.{take-append-drop, append-nil, drop_at}
use Rattle.std.proofs.lemmas.List.Sums.{take_while-cons}
use Rattle.std.proofs.lemmas.Str.{digit_value_digit}
use Rattle.std.proofs.lemmas.Str.Parse.{digit_from_value}
use Rattle.std.proofs.lemmas.Fmt.{decimal_is_IsNumeral_wide, decimal_digit, decimal_step_wide, decimal_by_steps_wide}
use Rattle.std.proofs.lemmas.Bool.Decides.{nat_tests}
use Rattle.afr_base.specs.Bricks.{and_left, and_right}
use Rattle.afr_plan.specs.Bytes.{digit, is_numeral}
use Rattle.afr_plan.specs.Reading.{front, checked, run_of}
use Rattle.afr_plan.proofs.Digits.{digit_value_of}
use Rattle.afr_plan_line.proofs.Front.{front_take}
use Rattle.afr_plan_read.proofs.Laws.{bind_some, checked_some, Stops, front_all, front_again}
use Rattle.afr_trace_read.specs.Forms.{below, number_below}
use Rattle.afr_trace_read.proofs.Laws.{Takes, Again}

-- ---- a front of bytes that pass
pub run-takes : (p : ℕ → Bool) (ok : List ℕ → Bool) → Takes (run_of p ok) (λ w. w) (λ w. (list_all p w ≡ true) × (ok w ≡ true))
run-takes p ok = record {
  read = λ xs x rest e.
      let c = checked_some (ok (take_while p xs)) (front p xs) (x, rest) e in
      let whole : xs ≡ take_while p xs ++ drop (length (take_while p xs)) xs = sym (take-append-drop (length (take_while p xs)) xs) ∙ ap (λ (t : List ℕ). t ++ drop (length (take_while p xs)) xs) (front_take p xs) in
      let P : List ℕ × List ℕ → Type 0 = λ z. ((list_all p z.0 ≡ true) × (ok z.0 ≡ true)) × (xs ≡ z.0 ++ z.1) in
      subst P c.1 ((front_all p xs, c.0), whole);
}

pub run-again : (p : ℕ → Bool) (ok : List ℕ → Bool) → Again (run_of p ok) (λ w. w) (λ w. (list_all p w ≡ true) × (ok w ≡ true)) (Stops p)
run-again p ok = record {
  read = λ w rest o n. rw (front_again p w rest o.0 n, o.1) (ap (λ (t : List ℕ). Some (w, t)) (drop_at w rest (length w) refl));
}

-- ---- numerals
le_value_after : (n : ℕ) (ds : List ℕ) → n ≤ digits_value_after 10 n ds
le_value_after n [] = omega arith
le_value_after n (c ∷ cs) = omega (arith, le_value_after (n * 10 + digit_value c) cs)

decimal_value_after : (n : ℕ) (ds : List ℕ) → 0 < n → AllDigits 10 ds → digits_value_after 10 n ds < 10 ^ 64 → decimal (digits_value_after 10 n ds) ≡ decimal n ++ ds
decimal_value_after n [] some d small = sym (append-nil (decimal n))
decimal_value_after n (c ∷ cs) some d small =
    let m : ℕ = n * 10 + digit_value c in
    let k = digit_value_digit c (digit_from_value c d.0) in
    let front : m / 10 ≡ n = omega (arith, d.0) in
    let end : 48 + m % 10 ≡ c = omega (arith, d.0) in
    decimal_value_after m cs (omega arith) d.1 small
    ∙ ap (λ x. x ++ cs) (decimal_step_wide m (omega arith) (omega (arith, le_value_after m cs)) ∙ (λ i. decimal (front i) ++ (end i ∷ [])))
    ∙ append_assoc (decimal n) (c ∷ []) cs

all_digits : (ds : List ℕ) → list_all digit ds ≡ true → AllDigits 10 ds
all_digits [] h = tt
all_digits (d ∷ ds) h = (digit_value_of d (and_left (digit d) (list_all digit ds) h), all_digits ds (and_right (digit d) (list_all digit ds) h))

-- digits with no leading zero are the text of their value
pub numeral_is : (ds : List ℕ) → list_all digit ds ≡ true → is_numeral ds ≡ true → digits_value 10 ds < 10 ^ 64 → ds ≡ decimal (digits_value 10 ds)
numeral_is [] h num small = absurd (cc)
numeral_is (c ∷ []) h num small =
    let d = all_digits (c ∷ []) h in
    let k = digit_value_digit c (digit_from_value c d.0) in
    sym (decimal_digit (0 * 10 + digit_value c) (omega (arith, d.0)) ∙ ap (λ x. x ∷ []) (omega arith))
numeral_is (c ∷ e ∷ cs) h num small =
    let d = all_digits (c ∷ e ∷ cs) h in
    let k = digit_value_digit c (digit_from_value c d.0) in
    let no : c ≡ 48 → ⊥ = λ z. (let t : (c == 48) ≡ true = grind (arith, nat_tests) in let u : not true ≡ true = sym (ap not t) ∙ num in (cc)) in
    let is : 48 + (0 * 10 + digit_value c) ≡ c = omega arith in
    sym (decimal_value_after (0 * 10 + digit_value c) (e ∷ cs) (omega (arith, no)) d.1 small
    ∙ ap (λ x. x ++ (e ∷ cs)) (decimal_digit (0 * 10 + digit_value c) (omega (arith, d.0)) ∙ ap (λ x. x ∷ []) is))

digits_again : (ds : List ℕ) → AllDigits 10 ds → list_all digit ds ≡ true
digits_again [] a = refl
digits_again (d ∷ ds) a =
    let r = digit_from_value d a.0 in
    let here : digit d ≡ true = grind (arith, nat_tests, r) in
    rw (here, digits_again ds a.1) refl

first_append : (xs ys : List ℕ) → 0 < length xs → get_or (xs ++ ys) 0 0 ≡ get_or xs 0 0
first_append [] ys l = absurd (omega arith)
first_append (x ∷ xs) ys l = refl

first_wide : (n : ℕ) → 0 < n → n < 10 ^ 64 → 48 < get_or (decimal n) 0 0
first_wide n some small = (decimal_by_steps_wide (λ m ds. (0 < length ds) × (0 < m → 48 < get_or ds 0 0)) (λ m l. (omega arith, λ a. omega arith))
    (λ m ds l h. (omega (arith, length-append ds ((48 + m % 10) ∷ [])), λ a. omega (arith, first_append ds ((48 + m % 10) ∷ []) h.0, h.1 (omega arith)))) n small).1 some

numeral : (n : ℕ) (ds : List ℕ) → 0 < length ds → (0 < n → 48 < get_or ds 0 0) → (n ≡ 0 → ds ≡ 48 ∷ []) → is_numeral ds ≡ true
numeral n [] l f z = absurd (omega arith)
numeral n (d ∷ []) l f z = refl
numeral zero (d ∷ e ∷ ds) l f z = absurd (let h : d ∷ e ∷ ds ≡ 48 ∷ [] = z refl in cc)
numeral (suc n) (d ∷ e ∷ ds) l f z = let g : 48 < d = f (omega arith) in grind (arith, nat_tests, g)

pub decimal-numeral : (n : ℕ) → n < 10 ^ 64 → is_numeral (decimal n) ≡ true
decimal-numeral n l = numeral n (decimal n) (decimal_is_IsNumeral_wide n l).0.0 (λ a. first_wide n a l) (λ e. ap decimal e ∙ decimal_digit 0 (omega arith))

pub decimal-digits : (n : ℕ) → n < 10 ^ 64 → list_all digit (decimal n) ≡ true
decimal-digits n l = digits_again (decimal n) (decimal_is_IsNumeral_wide n l).0.1

-- ---- a number below a bound
pub number-takes : (bound : ℕ) → bound ≤ 10 ^ 64 → Takes (number_below bound) decimal (λ n. n < bound)
unfolding number_below
number-takes bound b = record {
  read = λ xs n rest e.
      let s = bind_some (run_of digit is_numeral xs) (below bound) (n, rest) e in
      let c = checked_some (nat_lt (digits_value 10 s.0.0) bound) (digits_value 10 s.0.0, s.0.1) (n, rest) s.2 in
      let l : digits_value 10 s.0.0 < bound = grind (arith, nat_tests, c.0) in
      let u = (run-takes digit is_numeral).read xs s.0.0 s.0.1 s.1 in
      let same : xs ≡ decimal (digits_value 10 s.0.0) ++ s.0.1 = u.1 ∙ ap (λ (t : List ℕ). t ++ s.0.1) (numeral_is s.0.0 u.0.0 u.0.1 (omega (arith, l, b))) in
      let P : ℕ × List ℕ → Type 0 = λ z. (z.0 < bound) × (xs ≡ decimal z.0 ++ z.1) in
      subst P c.1 (l, same);
}

pub number-again : (bound : ℕ) → bound ≤ 10 ^ 64 → Again (number_below bound) decimal (λ n. n < bound) (Stops digit)
unfolding number_below
number-again bound b = record {
  read = λ n rest l stops.
      let w : n < 10 ^ 64 = omega (arith, l, b) in
      let v : digits_value 10 (decimal n) ≡ n = (decimal_is_IsNumeral_wide n w).1 in
      let t : nat_lt n bound ≡ true = grind (arith, nat_tests, l) in
      rw ((run-again digit is_numeral).read (decimal n) rest (decimal-digits n w, decimal-numeral n w) stops, v, t) refl;
}

-- ---- digits one by one
front_value : (n i : ℕ) (ds : List ℕ) → digits_value_after 10 n (take i ds) ≤ digits_value_after 10 n ds
front_value n zero [] = omega arith
front_value n (suc i) [] = omega arith
front_value n zero (c ∷ cs) = le_value_after n (c ∷ cs)
front_value n (suc i) (c ∷ cs) = front_value (n * 10 + digit_value c) i cs

take_all : (i : ℕ) (ds : List ℕ) → length ds ≤ i → take i ds ≡ ds
take_all zero [] l = refl
take_all (suc i) [] l = refl
take_all zero (d ∷ ds) l = absurd (omega arith)
take_all (suc i) (d ∷ ds) l = ap (λ t. d ∷ t) (take_all i ds (omega arith))

pub too_much : (ds : List ℕ) (i most : ℕ) → most < digits_value 10 (take (i + 1) ds) → None ≡ checked (nat_lt (digits_value 10 ds) (most + 1)) (digits_value 10 ds)
too_much ds i most l =
    let more : digits_value 10 (take (i + 1) ds) ≤ digits_value 10 ds = front_value 0 (i + 1) ds in
    let t : nat_lt (digits_value 10 ds) (most + 1) ≡ false = grind (arith, nat_tests, more, l) in
    rw t refl

pub all_taken : (ds : List ℕ) (i n most : ℕ) → length ds ≤ i → n ≡ digits_value 10 (take i ds) → n ≤ most → Some n ≡ checked (nat_lt (digits_value 10 ds) (most + 1)) (digits_value 10 ds)
all_taken ds i n most e v l =
    let same : n ≡ digits_value 10 ds = v ∙ ap (digits_value 10) (take_all i ds e) in
    let t : nat_lt (digits_value 10 ds) (most + 1) ≡ true = grind (arith, nat_tests, same, l) in
    rw t (ap (λ m. Some m) same)

-- what doesn't begin with a digit is no number
pub no_number : (bound x : ℕ) (xs : List ℕ) → digit x ≡ false → number_below bound (x ∷ xs) ≡ None
unfolding number_below
no_number bound x xs e = rw (take_while-cons digit x xs, e) refl

-- a number of 32 bits
pub small-takes : Takes (number_below (2 ^ 32)) decimal (λ n. n < 2 ^ 32)
small-takes = number-takes (2 ^ 32) (omega arith)

pub small-again : Again (number_below (2 ^ 32)) decimal (λ n. n < 2 ^ 32) (Stops digit)
small-again = number-again (2 ^ 32) (omega arith)
