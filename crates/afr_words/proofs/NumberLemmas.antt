-- What a text that is parsed says of the digits of a number, and two words of a name and a number.
use Rattle.std.proofs.Common.{◌≡◌, ℕ, ◌<◌, ◌≤◌, ◌^◌, List, [], ◌∷◌, length, Ok, Result, refl, sym, arith, slice_index}
use Rattle.std.specs.Prelude.{IfSome, Option, Some, None, String, decimal, map, string_bytes, zero, suc}
use Rattle.std.specs.Global.{Global}
use Rattle.std.specs.List.{slice_index_or}
use Rattle.afr_words.specs.Forms.{AreNumbered}
use Rattle.std.specs.Str.Parse.{AllDigits, ParsesUnsigned, digits_value}
use Rattle.std.proofs.lemmas.Fmt.{decimal_digit, decimal-digits_value, first_decimal, parse-decimal}
use Rattle.std.proofs.lemmas.Str.Parse.{IsNumeralModel, numerals_by_value, parse_plain, tells_digits}

own : IsNumeralModel (AllDigits 10) (digits_value 10)
own = numerals_by_value _ tells_digits

-- a text that begins above `0` is the digits of the number that it is parsed as, and that isn't 0
pub parsed_is_decimal : {E : Type 0} (text : List ℕ) (n : ℕ) (r : Result ℕ E) → 48 < slice_index text 0 → ParsesUnsigned 32 10 text r → r ≡ Ok n → (text ≡ decimal n) × (1 ≤ n)
parsed_is_decimal text n r first parsed e =
    let plain = rw e at (parse_plain own 32 text r parsed (λ plus. omega (arith, plus))) in
    let digits : text ≡ decimal n = rw plain.1 (sym (decimal-digits_value own text plain.0.0 plain.0.1 (λ zero. absurd (omega (arith, zero))) (omega (arith, plain.0.2)))) in
    (digits, above n digits)
  where
    above : (n : ℕ) → text ≡ decimal n → 1 ≤ n
    above zero e = let begins : slice_index text 0 ≡ 48 = rw (e, decimal_digit 0 (omega arith)) refl in absurd (omega (arith, begins))
    above (suc n) e = omega arith

-- the digits of a number in range begin above `0`
pub decimal_begins : (text : List ℕ) (n : ℕ) → text ≡ decimal n → 1 ≤ n → n < 2 ^ 32 → 48 < slice_index text 0
decimal_begins text n e low high = rw e (first_decimal n (omega arith) (omega arith))

-- and are parsed as that number
pub decimal_parses : {E : Type 0} (text : List ℕ) (n : ℕ) (r : Result ℕ E) → text ≡ decimal n → n < 2 ^ 32 → ParsesUnsigned 32 10 text r → r ≡ Ok n
decimal_parses text n r e high parsed = parse-decimal 32 n text r high (omega arith) e parsed

-- two words that are all there are
pub two_words : (words : List (String Global)) (w u : String Global) → 2 ≤ length words → length words < 3 → w ≡ slice_index_or words 0 w → u ≡ slice_index_or words 1 u
    → map string_bytes words ≡ string_bytes w ∷ string_bytes u ∷ []
two_words [] w u least most first second = absurd (omega arith)
two_words (x ∷ []) w u least most first second = absurd (omega arith)
two_words (x ∷ y ∷ []) w u least most first second = rw (first, second) refl
two_words (x ∷ y ∷ z ∷ words) w u least most first second = absurd (omega arith)

-- of which the first is the name have the number that the second spells
pub spelled_is_numbered : (words : List (String Global)) (w u : String Global) (name : List ℕ) (most : ℕ) (met : Option ℕ) → map string_bytes words ≡ string_bytes w ∷ string_bytes u ∷ []
    → string_bytes w ≡ name → IfSome met (λ n. (string_bytes u ≡ decimal n) × (1 ≤ n) × (n ≤ most)) → IfSome met (λ n. AreNumbered name n most (map string_bytes words))
spelled_is_numbered words w u name most None are named spelled = tt
spelled_is_numbered words w u name most (Some n) are named (digits, low, high) = (rw (are, named, digits) refl, low, high)
