-- The shortest form of some bytes spells them, and no form that spells them is shorter.
use Rattle.std.proofs.Common.{◌≡◌, ℕ, ◌+◌, ◌-◌, ◌*◌, ◌/◌, ◌%◌, ◌<◌, ◌≤◌, List, [], ◌∷◌, ◌++◌, length, slice_index, Option, Some, None, refl, sym, ap, ◌∙◌, arith, Bool, true, false, ◌&&◌, ◌==◌, cond, suc, zero, replicate, subst, codes, inl, inr, length-append}
use Rattle.std.specs.Prelude.{nat_le, decimal}
use Rattle.std.specs.List.{list_all}
use Rattle.std.proofs.lemmas.Bool.{and_parts, cases_lt, eqb-true, eq-eqb}
use Rattle.std.proofs.lemmas.Bool.Decides.{nat_tests}
use Rattle.std.proofs.lemmas.List.{length-replicate}
use Rattle.hex.specs.Hex.{lower_digits, encode_lower, encode_with}
use Rattle.afr_plan.specs.Bytes.{digit, hex_digit, text_byte, plain}
use Rattle.afr_plan.specs.Data.{hex_value, hex_bytes, is_paired, is_pair, first_byte, filled_of, IsQuoted, IsHexed, IsFilled, IsData}
use Rattle.afr_plan_print.specs.PrintedData.{text_form, hex_form, fill_form, is_text_data, only_byte, fill_forms, shorter, shortest, data_text}
use Rattle.afr_plan_print.proofs.DataFormLemmas.{length-hex_form, length-fill_form}
use Rattle.afr_plan_print.proofs.PrintedNumberLemmas.{number_is, number_again, plain_number}

-- each is a byte
abbrev pub AreBytes : List ℕ → Type 0
AreBytes [] = Unit {0}
AreBytes (b ∷ bs) = (b < 256) × AreBytes bs

-- ---- digits
-- the digit at a place is one, and comes to the place
abbrev is_good : ℕ → Bool
is_good d = hex_digit (slice_index lower_digits d) && hex_value (slice_index lower_digits d) == d

abbrev are_good : ℕ → Bool
are_good zero = true
are_good (suc n) = is_good n && are_good n

good_below : (n d : ℕ) → are_good n ≡ true → d < n → is_good d ≡ true
good_below zero d h l = absurd (omega arith)
good_below (suc n) d h l =
    let parts = and_parts (is_good n) (are_good n) h in
    elim (cases_lt d n) [
      | inl below ↦ good_below n d parts.1 below
      | inr top ↦ let e : d ≡ n = omega arith in rw e parts.0
    ]

good : (d : ℕ) → d < 16 → (hex_digit (slice_index lower_digits d) ≡ true) × (hex_value (slice_index lower_digits d) ≡ d)
good d l =
    let parts = and_parts _ _ (good_below 16 d refl l) in
    (parts.0, eqb-true _ _ parts.1)

digits_are : (bs : List ℕ) → AreBytes bs → list_all hex_digit (encode_lower bs) ≡ true
unfolding encode_with
digits_are [] h = refl
digits_are (b ∷ bs) h =
    let high = good (b / 16) (let l : b < 256 = h.0 in omega arith) in
    let low = good (b % 16) (omega arith) in
    rw (high.0, low.0) (digits_are bs h.1)

digits_paired : (bs : List ℕ) → is_paired (encode_lower bs) ≡ true
unfolding encode_with
digits_paired [] = refl
digits_paired (b ∷ bs) = digits_paired bs

bytes_again : (bs : List ℕ) → AreBytes bs → hex_bytes (encode_lower bs) ≡ bs
unfolding encode_with
bytes_again [] h = refl
bytes_again (b ∷ bs) h =
    let high = good (b / 16) (let l : b < 256 = h.0 in omega arith) in
    let low = good (b % 16) (omega arith) in
    let whole : 16 * (b / 16) + b % 16 ≡ b = omega arith in
    rw (high.1, low.1, whole) (ap (λ (t : List ℕ). b ∷ t) (bytes_again bs h.1))

pair_is : (b : ℕ) → is_pair (encode_lower (b ∷ [])) ≡ true
unfolding encode_with
pair_is b = refl

-- ---- each form spells its bytes
pub text_spells : (bs : List ℕ) → is_text_data bs ≡ true → IsData (text_form bs) bs
text_spells bs h = inl ((bs, tt), (bs ++ codes "\"", (bs, codes "\"", (refl, h, refl), (refl, refl), refl), refl), refl)

pub hex_spells : (bs : List ℕ) → AreBytes bs → IsData (hex_form bs) bs
hex_spells bs h = inr (inl (encode_lower bs, (encode_lower bs, (refl, digits_are bs h, digits_paired bs), refl), bytes_again bs h))

pub fill_spells : (n b : ℕ) → n < 10000000 → b < 256 → IsData (fill_form n b) (replicate n b)
fill_spells n b l small =
    let one : AreBytes (b ∷ []) = (small, tt) in
    let digits : List ℕ = encode_lower (b ∷ []) in
    let value : filled_of (n, digits) ≡ replicate n b = ap (λ (t : List ℕ). replicate n (first_byte t)) (bytes_again (b ∷ []) one) in
    inr (inr ((n, digits), (decimal n ++ (codes ":" ++ digits), (decimal n, codes ":" ++ digits, number_again n l, (digits, (refl, digits_are (b ∷ []) one, pair_is b), refl), refl), refl), value))

-- ---- the shortest of the forms
spelled_by_one : (w v bs : List ℕ) → IsData w bs → IsData v bs → IsData (shorter w v) bs
spelled_by_one w v bs a b = step (nat_le (length w) (length v))
  where
    step : (c : Bool) → IsData (cond c w v) bs
    step true = a
    step false = b

-- the forms, by whether there is a text and a byte that is repeated
abbrev of_forms : Bool → Option ℕ → List ℕ → List (List ℕ)
of_forms text o bs = cond text (text_form bs ∷ []) [] ++ hex_form bs ∷ fill_forms (length bs) o

-- the byte that is repeated, if there is one, is repeated
abbrev Repeats : Option ℕ → List ℕ → Type 0
Repeats None bs = Unit {0}
Repeats (Some b) bs = (b < 256) × (replicate (length bs) b ≡ bs)

fill_of : (b : ℕ) (bs : List ℕ) → length bs < 10000000 → Repeats (Some b) bs → IsData (fill_form (length bs) b) bs
fill_of b bs l r = let P : List ℕ → Type 0 = λ t. IsData (fill_form (length bs) b) t in subst P r.1 (fill_spells (length bs) b l r.0)

shortest_spells : (text : Bool) (o : Option ℕ) (bs : List ℕ) → is_text_data bs ≡ text → AreBytes bs → length bs < 10000000 → Repeats o bs → IsData (shortest (of_forms text o bs)) bs
shortest_spells true None bs t a l r = spelled_by_one _ _ bs (text_spells bs t) (hex_spells bs a)
shortest_spells true (Some b) bs t a l r = spelled_by_one _ _ bs (text_spells bs t) (spelled_by_one _ _ bs (hex_spells bs a) (fill_of b bs l r))
shortest_spells false None bs t a l r = hex_spells bs a
shortest_spells false (Some b) bs t a l r = spelled_by_one _ _ bs (hex_spells bs a) (fill_of b bs l r)

same_all : (b : ℕ) (bs : List ℕ) → list_all (λ x. x == b) bs ≡ true → replicate (length bs) b ≡ bs
same_all b [] h = refl
same_all b (x ∷ bs) h =
    let one : b ≡ x = grind (arith, nat_tests) in
    let more : list_all (λ y. y == b) bs ≡ true = grind (arith, nat_tests) in
    ap (λ (t : List ℕ). b ∷ t) (same_all b bs more) ∙ ap (λ (y : ℕ). y ∷ bs) one

only_repeats : (bs : List ℕ) → AreBytes bs → Repeats (only_byte bs) bs
only_repeats [] a = tt
only_repeats (b ∷ bs) a = step (list_all (λ x. x == b) bs) refl
  where
    step : (c : Bool) → list_all (λ x. x == b) bs ≡ c → Repeats (cond c (Some b) None) (b ∷ bs)
    step true h = (a.0, ap (λ (t : List ℕ). b ∷ t) (same_all b bs h))
    step false h = tt

pub data_spells : (bs : List ℕ) → AreBytes bs → length bs < 10000000 → IsData (data_text bs) bs
data_spells bs a l = shortest_spells (is_text_data bs) (only_byte bs) bs refl a l (only_repeats bs a)

-- ---- and no other is shorter
shorter_first : (w v : List ℕ) → length (shorter w v) ≤ length w
shorter_first w v = step (nat_le (length w) (length v)) refl
  where
    step : (c : Bool) → nat_le (length w) (length v) ≡ c → length (cond c w v) ≤ length w
    step true e = omega arith
    step false e = grind (arith, nat_tests)

shorter_second : (w v : List ℕ) → length (shorter w v) ≤ length v
shorter_second w v = step (nat_le (length w) (length v)) refl
  where
    step : (c : Bool) → nat_le (length w) (length v) ≡ c → length (cond c w v) ≤ length v
    step true e = grind (arith, nat_tests)
    step false e = omega arith

upto_text : (text : Bool) (o : Option ℕ) (bs : List ℕ) → text ≡ true → length (shortest (of_forms text o bs)) ≤ length (text_form bs)
upto_text true None bs t = shorter_first (text_form bs) (hex_form bs)
upto_text true (Some b) bs t = shorter_first (text_form bs) (shorter (hex_form bs) (fill_form (length bs) b))
upto_text false o bs t = absurd (cc)

upto_hex : (text : Bool) (o : Option ℕ) (bs : List ℕ) → length (shortest (of_forms text o bs)) ≤ length (hex_form bs)
upto_hex true None bs = shorter_second (text_form bs) (hex_form bs)
upto_hex true (Some b) bs = let a = shorter_second (text_form bs) (shorter (hex_form bs) (fill_form (length bs) b)) in let c = shorter_first (hex_form bs) (fill_form (length bs) b) in omega (arith, a, c)
upto_hex false None bs = omega arith
upto_hex false (Some b) bs = shorter_first (hex_form bs) (fill_form (length bs) b)

upto_fill : (text : Bool) (b : ℕ) (bs : List ℕ) → length (shortest (of_forms text (Some b) bs)) ≤ length (fill_form (length bs) b)
upto_fill true b bs = let a = shorter_second (text_form bs) (shorter (hex_form bs) (fill_form (length bs) b)) in let c = shorter_second (hex_form bs) (fill_form (length bs) b) in omega (arith, a, c)
upto_fill false b bs = shorter_second (hex_form bs) (fill_form (length bs) b)

all_same : (n b : ℕ) → list_all (λ x. x == b) (replicate n b) ≡ true
all_same zero b = refl
all_same (suc n) b = let here : (b == b) ≡ true = eq-eqb b b refl in rw (here, all_same n b) refl

short_fill : (n b : ℕ) → length (data_text (replicate n b)) ≤ length (fill_form n b)
short_fill zero b = let e = length-fill_form 0 b in let u = upto_text true None [] refl in omega (arith, e, u)
short_fill (suc n) b =
    let bs : List ℕ = replicate (suc n) b in
    let o : only_byte bs ≡ Some b = rw (all_same n b) refl in
    let k : length bs ≡ suc n = length-replicate (suc n) b in
    let u = upto_fill (is_text_data bs) b bs in
    let e : data_text bs ≡ shortest (of_forms (is_text_data bs) (Some b) bs) = ap (λ (t : Option ℕ). shortest (of_forms (is_text_data bs) t bs)) o in
    let f : length (fill_form (length bs) b) ≡ length (fill_form (suc n) b) = ap (λ (m : ℕ). length (fill_form m b)) k in
    omega (arith, ap length e, u, f)

-- ---- what a word that spells bytes is like
quoted_is : (w bs : List ℕ) → IsQuoted w bs → (is_text_data bs ≡ true) × (w ≡ text_form bs)
quoted_is w bs h =
    let b = h.1.1 in
    let e : b.0 ≡ bs = b.2.0 ∙ h.2 in
    let P : List ℕ → Type 0 = λ t. is_text_data t ≡ true in
    (subst P e b.2.1, h.1.2 ∙ ap (λ (t : List ℕ). codes "\"" ++ t) (b.4 ∙ ap (λ (t : List ℕ). b.0 ++ t) b.3.0 ∙ ap (λ (t : List ℕ). t ++ codes "\"") e))

digit_small : (d : ℕ) → hex_digit d ≡ true → hex_value d < 16
digit_small d h = rw h (step (digit d) refl)
  where
    step : (c : Bool) → digit d ≡ c → cond c (d - 48) (d - 87) < 16
    step true e = grind (arith, nat_tests)
    step false e = let f : d ≤ 102 = grind (arith, nat_tests) in omega (arith, f)

hexed_bytes : (ds : List ℕ) → list_all hex_digit ds ≡ true → AreBytes (hex_bytes ds)
hexed_bytes [] h = tt
hexed_bytes (high ∷ []) h = tt
hexed_bytes (high ∷ low ∷ more) h =
    let a : hex_digit high ≡ true = grind (arith, nat_tests) in
    let b : hex_digit low ≡ true = grind (arith, nat_tests) in
    let c : list_all hex_digit more ≡ true = grind (arith, nat_tests) in
    let x = digit_small high a in
    let y = digit_small low b in
    (omega (arith, x, y), hexed_bytes more c)

hexed_length : (ds : List ℕ) → is_paired ds ≡ true → length ds ≡ 2 * length (hex_bytes ds)
hexed_length [] h = refl
hexed_length (high ∷ []) h = absurd (cc)
hexed_length (high ∷ low ∷ more) h = let e = hexed_length more h in omega (arith, e)

hexed_is : (w bs : List ℕ) → IsHexed w bs → AreBytes bs × (length w ≡ 2 * length bs + 4)
hexed_is w bs h =
    let ds = h.1.0 in
    let run = h.1.1 in
    let e : hex_bytes ds ≡ bs = ap hex_bytes run.0 ∙ h.2 in
    let n = hexed_length ds run.2 in
    (subst AreBytes e (hexed_bytes ds run.1), omega (arith, n, ap length e, ap length h.1.2))

pair_length : (ds : List ℕ) → is_pair ds ≡ true → length ds ≡ 2
pair_length [] h = absurd (cc)
pair_length (a ∷ []) h = absurd (cc)
pair_length (a ∷ b ∷ []) h = refl
pair_length (a ∷ b ∷ c ∷ ds) h = absurd (cc)

first_small : (bs : List ℕ) → AreBytes bs → first_byte bs < 256
first_small [] h = omega arith
first_small (b ∷ bs) h = h.0

filled_bytes : (n b : ℕ) → b < 256 → AreBytes (replicate n b)
filled_bytes zero b l = tt
filled_bytes (suc n) b l = (l, filled_bytes n b l)

filled_is : (w bs : List ℕ) → IsFilled w bs → length bs ≤ 65536 → AreBytes bs × (length (data_text bs) ≤ length w)
filled_is w bs h l =
    let n = h.0.0 in
    let b = first_byte (hex_bytes h.0.1) in
    let part = h.1.1 in
    let run = part.3.1 in
    let P : List ℕ → Type 0 = λ t. list_all hex_digit t ≡ true in
    let small : b < 256 = first_small (hex_bytes h.0.1) (hexed_bytes h.0.1 (subst P run.0 run.1)) in
    let e : replicate n b ≡ bs = h.2 in
    let few : n < 10000000 = omega (arith, l, ap length e, length-replicate n b) in
    let number : part.0 ≡ decimal n = number_is part.0 n part.2 few in
    let digits = pair_length part.3.0 run.2 in
    let long : length w ≡ length (decimal n) + 8 = omega (arith, ap length h.1.2, ap length part.4, length-append part.0 part.1, ap length part.3.2, ap length number, digits) in
    let s = short_fill n b in
    let f = length-fill_form n b in
    let q : length (data_text (replicate n b)) ≡ length (data_text bs) = ap (λ (t : List ℕ). length (data_text t)) e in
    (subst AreBytes e (filled_bytes n b small), omega (arith, long, s, f, q))

text_bytes : (bs : List ℕ) → is_text_data bs ≡ true → AreBytes bs
text_bytes [] h = tt
text_bytes (b ∷ bs) h =
    let one : b < 256 = grind (arith, nat_tests) in
    let more : list_all text_byte bs ≡ true = grind (arith, nat_tests) in
    (one, text_bytes bs more)

-- data of a word: bytes, and no longer a text
pub data_is : (w bs : List ℕ) → IsData w bs → length bs ≤ 65536 → AreBytes bs × (length (data_text bs) ≤ length w)
data_is w bs (inl q) l =
    let t = quoted_is w bs q in
    let u = upto_text (is_text_data bs) (only_byte bs) bs t.0 in
    (text_bytes bs t.0, omega (arith, u, ap length t.1))
data_is w bs (inr (inl x)) l =
    let t = hexed_is w bs x in
    let u = upto_hex (is_text_data bs) (only_byte bs) bs in
    (t.0, omega (arith, u, length-hex_form bs, t.1))
data_is w bs (inr (inr f)) l = filled_is w bs f l

-- ---- what is printed is plain
plain_digits : (ds : List ℕ) → list_all hex_digit ds ≡ true → list_all plain ds ≡ true
plain_digits [] h = refl
plain_digits (d ∷ ds) h =
    let one : plain d ≡ true = grind (arith, nat_tests) in
    let more : list_all hex_digit ds ≡ true = grind (arith, nat_tests) in
    rw (one, plain_digits ds more) refl

plain_text : (bs : List ℕ) → list_all text_byte bs ≡ true → list_all plain bs ≡ true
plain_text [] h = refl
plain_text (b ∷ bs) h =
    let one : plain b ≡ true = grind (arith, nat_tests) in
    let more : list_all text_byte bs ≡ true = grind (arith, nat_tests) in
    rw (one, plain_text bs more) refl

pub plain-append : (a b : List ℕ) → list_all plain a ≡ true → list_all plain b ≡ true → list_all plain (a ++ b) ≡ true
plain-append [] b ha hb = hb
plain-append (x ∷ a) b ha hb =
    let here : plain x ≡ true = grind (arith, nat_tests) in
    let more : list_all plain a ≡ true = grind (arith, nat_tests) in
    rw (here, plain-append a b more hb) refl

plain_quoted : (w bs : List ℕ) → IsQuoted w bs → list_all plain w ≡ true
plain_quoted w bs h =
    let t = quoted_is w bs h in
    let P : List ℕ → Type 0 = λ v. list_all plain v ≡ true in
    subst P (sym t.1) (plain-append bs (codes "\"") (plain_text bs t.0) refl)

plain_hexed : (w bs : List ℕ) → IsHexed w bs → list_all plain w ≡ true
plain_hexed w bs h =
    let P : List ℕ → Type 0 = λ v. list_all plain v ≡ true in
    subst P (sym h.1.2) (plain_digits h.1.0 h.1.1.1)

plain_filled : (w bs : List ℕ) → IsFilled w bs → list_all plain w ≡ true
plain_filled w bs h =
    let part = h.1.1 in
    let P : List ℕ → Type 0 = λ v. list_all plain v ≡ true in
    let number : list_all plain part.0 ≡ true = plain_number part.0 h.0.0 part.2 in
    let digits : list_all plain part.1 ≡ true = subst P (sym part.3.2) (plain_digits part.3.0 part.3.1.1) in
    subst P (sym h.1.2) (subst P (sym (ap (λ (t : List ℕ). codes "fill:" ++ t) part.4)) (plain-append part.0 part.1 number digits))

-- a word of data is plain
pub plain_data : (w bs : List ℕ) → IsData w bs → list_all plain w ≡ true
plain_data w bs (inl q) = plain_quoted w bs q
plain_data w bs (inr (inl x)) = plain_hexed w bs x
plain_data w bs (inr (inr f)) = plain_filled w bs f

-- data of a word is spelled by what is printed of it
pub data_again : (w bs : List ℕ) → IsData w bs → length bs ≤ 65536 → IsData (data_text bs) bs
data_again w bs h l = data_spells bs (data_is w bs h l).0 (omega (arith, l))

pub data_short : (w bs : List ℕ) → IsData w bs → length bs ≤ 65536 → length (data_text bs) ≤ length w
data_short w bs h l = (data_is w bs h l).1
