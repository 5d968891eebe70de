-- Which form of data is the shortest.
use Rattle.std.proofs.Common.{◌≡◌, ℕ, ◌+◌, ◌*◌, ◌/◌, ◌%◌, ◌<◌, ◌≤◌, ◌^◌, List, [], ◌∷◌, ◌++◌, length, Option, Some, None, refl, sym, arith, Bool, true, false, cond, length-append, codes, if◌then◌else◌}
use Rattle.std.specs.Prelude.{nat_le, nat_lt, decimal}
use Rattle.std.specs.List.{list_all}
use Rattle.std.specs.Str.{IsAscii}
use Rattle.std.proofs.lemmas.Str.Ascii.{IsAscii-cons, IsAscii-nil}
use Rattle.std.proofs.lemmas.Bool.Decides.{nat_tests}
use Rattle.std.proofs.lemmas.Fmt.{decimal_by_steps, decimal_nonempty, length-decimal-le}
use Rattle.hex.specs.Hex.{lower_digits, encode_lower}
use Rattle.hex.proofs.HexLemmas.{length-encode_with}
use Rattle.afr_plan.specs.Bytes.{text_byte}
use Rattle.afr_plan_print.specs.PrintedData.{text_form, hex_form, fill_form, is_text_data, only_byte, fill_forms, shorter, shortest, data_text}
use Rattle.afr_plan_print.specs.DataForm.{form_text, picked}
use Rattle.afr_plan_print.specs.declared.data_forms.Form.TheVariants.{Text, Hex, Fill}

pub text_ascii : (bs : List ℕ) → is_text_data bs ≡ true → IsAscii bs
text_ascii [] h = IsAscii-nil
text_ascii (b ∷ bs) h =
    let one : b < 128 = grind (arith, nat_tests) in
    let more : list_all text_byte bs ≡ true = grind (arith, nat_tests) in
    IsAscii-cons b bs one (text_ascii bs more)

-- ---- lengths
pub length-text_form : (bs : List ℕ) → length (text_form bs) ≡ length bs + 2
length-text_form bs = let e = length-append bs (codes "\"") in omega (arith, e)

pub length-hex_form : (bs : List ℕ) → length (hex_form bs) ≡ 2 * length bs + 4
length-hex_form bs = let e = length-encode_with lower_digits bs in omega (arith, e)

pub length-fill_form : (n b : ℕ) → length (fill_form n b) ≡ length (decimal n) + 8
length-fill_form n b =
    let e = length-encode_with lower_digits (b ∷ []) in
    let f = length-append (decimal n) (codes ":" ++ encode_lower (b ∷ [])) in
    omega (arith, e, f)

-- a number has few digits beside its size
few_digits : (n : ℕ) → n < 2 ^ 64 → length (decimal n) ≤ n / 10 + 1
few_digits = decimal_by_steps (λ n ds. length ds ≤ n / 10 + 1) (λ n l. omega arith) (λ n ds l h. let e = length-append ds ((48 + n % 10) ∷ []) in omega (arith, e))

one_digit : (n : ℕ) → n < 10 → length (decimal n) ≡ 1
one_digit n l = let a = decimal_nonempty n (omega arith) in let b = length-decimal-le 1 n (omega arith) (omega arith) (omega arith) in omega (arith, a, b)

-- ---- the shorter of two
first_of_two : (a b : List ℕ) → length a ≤ length b → shorter a b ≡ a
first_of_two a b l = let t : nat_le (length a) (length b) ≡ true = grind (arith, nat_tests) in rw t refl

second_of_two : (a b : List ℕ) → length b < length a → shorter a b ≡ b
second_of_two a b l = let t : nat_le (length a) (length b) ≡ false = grind (arith, nat_tests) in rw t refl

-- ---- the form that is picked
-- the shortest of the forms, by whether there is a text and a byte that is repeated
abbrev of_forms : Bool → Option ℕ → List ℕ → List ℕ
of_forms text o bs = shortest ((if text then text_form bs ∷ [] else []) ++ hex_form bs ∷ fill_forms (length bs) o)

hex_or_fill : (bs : List ℕ) (b : ℕ) → length bs < 2 ^ 63 → (c : Bool) → nat_le 3 (length bs) ≡ c → form_text (cond c (Fill b) Hex) bs ≡ shorter (hex_form bs) (fill_form (length bs) b)
hex_or_fill bs b l true e =
    let n : 3 ≤ length bs = grind (arith, nat_tests) in
    sym (second_of_two (hex_form bs) (fill_form (length bs) b) (omega (arith, n, length-hex_form bs, length-fill_form (length bs) b, few_digits (length bs) (omega (arith, l)))))
hex_or_fill bs b l false e =
    let n : length bs < 3 = grind (arith, nat_tests) in
    sym (first_of_two (hex_form bs) (fill_form (length bs) b) (omega (arith, n, length-hex_form bs, length-fill_form (length bs) b, one_digit (length bs) (omega (arith, n)))))

text_or_fill : (bs : List ℕ) (b : ℕ) → length bs < 2 ^ 63 → (c : Bool) → nat_le 8 (length bs) ≡ c → form_text (cond c (Fill b) Text) bs ≡ shorter (text_form bs) (shorter (hex_form bs) (fill_form (length bs) b))
text_or_fill bs b l true e =
    let n : 8 ≤ length bs = grind (arith, nat_tests) in
    let fill : length (fill_form (length bs) b) < length (text_form bs) = omega (arith, n, length-text_form bs, length-fill_form (length bs) b, few_digits (length bs) (omega (arith, l))) in
    let inner : shorter (hex_form bs) (fill_form (length bs) b) ≡ fill_form (length bs) b = second_of_two (hex_form bs) (fill_form (length bs) b) (omega (arith, fill, length-text_form bs, length-hex_form bs)) in
    sym (rw inner (second_of_two (text_form bs) (fill_form (length bs) b) fill))
text_or_fill bs b l false e =
    let n : length bs < 8 = grind (arith, nat_tests) in
    let fill : length (text_form bs) ≤ length (fill_form (length bs) b) = omega (arith, n, length-text_form bs, length-fill_form (length bs) b, one_digit (length bs) (omega (arith, n))) in
    let hex : length (text_form bs) ≤ length (hex_form bs) = omega (arith, length-text_form bs, length-hex_form bs) in
    let both : length (text_form bs) ≤ length (shorter (hex_form bs) (fill_form (length bs) b)) = at_least (text_form bs) (hex_form bs) (fill_form (length bs) b) hex fill in
    sym (first_of_two (text_form bs) (shorter (hex_form bs) (fill_form (length bs) b)) both)
  where
    at_least : (t a c : List ℕ) → length t ≤ length a → length t ≤ length c → length t ≤ length (shorter a c)
    at_least t a c h k = step (nat_le (length a) (length c))
      where
        step : (d : Bool) → length t ≤ length (cond d a c)
        step true = h
        step false = k

picked_form : (text : Bool) (o : Option ℕ) (bs : List ℕ) → length bs < 2 ^ 63 → form_text (picked text o (length bs)) bs ≡ of_forms text o bs
picked_form true None bs l = sym (first_of_two (text_form bs) (hex_form bs) (omega (arith, length-text_form bs, length-hex_form bs)))
picked_form false None bs l = refl
picked_form true (Some b) bs l = text_or_fill bs b l (nat_le 8 (length bs)) refl
picked_form false (Some b) bs l = hex_or_fill bs b l (nat_le 3 (length bs)) refl

pub data_text-picked : (bs : List ℕ) → length bs < 2 ^ 63 → form_text (picked (is_text_data bs) (only_byte bs) (length bs)) bs ≡ data_text bs
data_text-picked bs l = picked_form (is_text_data bs) (only_byte bs) bs l

pub picked_text : (text : Bool) (o : Option ℕ) (n : ℕ) → picked text o n ≡ Text → text ≡ true
picked_text true o n h = refl
picked_text false None n h = absurd (cc)
picked_text false (Some b) n h = absurd (step (nat_le 3 n) h)
  where
    step : (c : Bool) → cond c (Fill b) Hex ≡ Text → ⊥
    step true h = cc
    step false h = cc

pub all_ascii : (bs : List ℕ) → list_all (λ b. nat_lt b 128) bs ≡ true → IsAscii bs
all_ascii [] h = IsAscii-nil
all_ascii (b ∷ bs) h =
    let one : b < 128 = grind (arith, nat_tests) in
    let more : list_all (λ b. nat_lt b 128) bs ≡ true = grind (arith, nat_tests) in
    IsAscii-cons b bs one (all_ascii bs more)
