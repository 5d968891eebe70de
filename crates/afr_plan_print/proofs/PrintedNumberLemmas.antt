-- A number that is read is spelled as it is printed.
use Rattle.std.proofs.Common.{◌≡◌, ℕ, ◌<◌, ◌^◌, List, [], ◌∷◌, length, get_or, refl, sym, ap, ◌∙◌, arith, true, ◌==◌, not, subst, suc, zero}
use Rattle.std.specs.Prelude.{decimal}
use Rattle.std.specs.Str.Parse.{AllDigits, digits_value}
use Rattle.std.specs.List.{list_all}
use Rattle.std.proofs.lemmas.Str.Parse.{IsNumeralModel, numerals_by_value, tells_digits, digit_from_value}
use Rattle.std.proofs.lemmas.Fmt.{decimal-digits_value, decimal_is_IsNumeral, decimal_digit, first_decimal}
use Rattle.std.proofs.lemmas.Bool.Decides.{nat_tests}
use Rattle.afr_plan.specs.Bytes.{digit, plain, is_numeral}
use Rattle.afr_plan.specs.Spelling.{IsNumber, IsSmall, IsRun}
use Rattle.afr_plan.proofs.Digits.{digit_value_of}

all_digits : (ds : List ℕ) → list_all digit ds ≡ true → AllDigits 10 ds
all_digits [] h = tt
all_digits (d ∷ ds) h =
    let one : digit d ≡ true = grind (arith, nat_tests) in
    let more : list_all digit ds ≡ true = grind (arith, nat_tests) in
    (digit_value_of d one, all_digits ds more)

some_digit : (ds : List ℕ) → is_numeral ds ≡ true → 0 < length ds
some_digit [] h = absurd (cc)
some_digit (d ∷ ds) h = omega arith

one_zero : (ds : List ℕ) → is_numeral ds ≡ true → get_or ds 0 0 ≡ 48 → length ds ≡ 1
one_zero [] h e = absurd (cc)
one_zero (d ∷ []) h e = refl
one_zero (d ∷ e ∷ ds) h f = absurd (let t : (d == 48) ≡ true = grind (arith, nat_tests) in let u : not true ≡ true = sym (ap not t) ∙ h in (cc))

own : IsNumeralModel (AllDigits 10) (digits_value 10)
own = numerals_by_value (AllDigits 10) tells_digits

-- digits with no leading zero are the text of their value
numeral_is : (w ds : List ℕ) → IsRun digit is_numeral w ds → digits_value 10 ds < 2 ^ 64 → w ≡ decimal (digits_value 10 ds)
numeral_is w ds h l =
    let P : List ℕ → Type 0 = λ t. IsRun digit is_numeral t ds in
    let k : IsRun digit is_numeral ds ds = subst P h.0 h in
    h.0 ∙ sym (decimal-digits_value own ds (all_digits ds k.1) (some_digit ds k.2) (one_zero ds k.2) l)

digits_again : (ds : List ℕ) → AllDigits 10 ds → list_all digit ds ≡ true
digits_again [] a = refl
digits_again (d ∷ ds) a =
    let r = digit_from_value d a.0 in
    let here : digit d ≡ true = grind (arith, nat_tests, r) in
    rw (here, digits_again ds a.1) refl

numeral : (ds : List ℕ) → 0 < length ds → (get_or ds 0 0 ≡ 48 → length ds ≡ 1) → is_numeral ds ≡ true
numeral [] l f = absurd (omega arith)
numeral (d ∷ []) l f = refl
numeral (d ∷ e ∷ ds) l f = grind (arith, nat_tests, f)

zero_alone : (n : ℕ) → n < 10000000 → get_or (decimal n) 0 0 ≡ 48 → length (decimal n) ≡ 1
zero_alone zero l e = rw (decimal_digit 0 (omega arith)) refl
zero_alone (suc n) l e = let f : 48 < get_or (decimal (suc n)) 0 0 = first_decimal (suc n) (omega arith) (omega (arith, l)) in absurd (omega (arith, e, f))

plain_digits : (ds : List ℕ) → list_all digit ds ≡ true → list_all plain ds ≡ true
plain_digits [] h = refl
plain_digits (d ∷ ds) h =
    let one : plain d ≡ true = grind (arith, nat_tests) in
    let more : list_all digit ds ≡ true = grind (arith, nat_tests) in
    rw (one, plain_digits ds more) refl

pub number_is : (w : List ℕ) (n : ℕ) → IsNumber w n → n < 10000000 → w ≡ decimal n
number_is w n h l =
    let e : digits_value 10 h.0 ≡ n = omega (arith, h.2) in
    numeral_is w h.0 h.1 (omega (arith, e)) ∙ ap decimal e

pub small_is : (w : List ℕ) (n : ℕ) → IsSmall w n → n < 255 → w ≡ decimal n
small_is w n h l =
    let e : digits_value 10 h.0 ≡ n = omega (arith, h.2) in
    numeral_is w h.0 h.1 (omega (arith, e)) ∙ ap decimal e

-- a number is printed as it may be read
pub number_again : (n : ℕ) → n < 10000000 → IsNumber (decimal n) n
number_again n l =
    let d = decimal_is_IsNumeral n (omega (arith, l)) in
    (decimal n, (refl, digits_again (decimal n) d.0.1, numeral (decimal n) d.0.0 (zero_alone n l)), omega (arith, d.1))

pub plain_number : (w : List ℕ) (n : ℕ) → IsNumber w n → list_all plain w ≡ true
plain_number w n h = plain_digits w h.1.1
