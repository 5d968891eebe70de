-- Bytes, values and stats behind the word `ok`, both ways.
use Rattle.std.proofs.Common.{◌≡◌, ℕ, zero, suc, ◌+◌, ◌-◌, ◌*◌, ◌/◌, ◌%◌, ◌<◌, ◌^◌, ◌&&◌, List, [], ◌∷◌, ◌++◌, length, min, take, drop, Option, Some, None, inl, inr, refl, sym, ap, subst, ◌∙◌, arith, true, false, nat_lt, codes, append_assoc, get_or}
use Rattle.std.specs.Prelude.{decimal}
use Rattle.std.specs.Int.{byte_at, bytes_high_first, from_be_bytes, to_be_bytes, w128}
use Rattle.std.proofs.lemmas.Bool.{cases_lt}
use Rattle.std.specs.List.{list_all}
use Rattle.std.specs.Str.{bytes_eq}
use Rattle.std.proofs.lemmas.Bool.Decides.{nat_tests}
use Rattle.std.proofs.lemmas.List.{append-nil, drop_all, drop_at, length-drop, take_all, take_at, take-append-drop}
use Rattle.std.proofs.lemmas.Slice.Eq.{bytes_eq-Decides}
use Rattle.uuid.specs.Text.{lower, parsed}
use Rattle.uuid.proofs.OrderLemmas.{from_be_bytes-to_be_bytes_16}
use Rattle.uuid.proofs.RoundTrips.{parses_hyphenated}
use Rattle.uuid.proofs.TextLemmas.{all_fit, by_index_length}
use Rattle.afr_base.specs.Bricks.{and_left, and_right}
use Rattle.afr_base.specs.Text.{gfid_spelling}
use Rattle.afr_base.specs.declared.ids.Gfid.{Gfid}
use Rattle.afr_base.specs.declared.ids.ValueId.{ValueId}
use Rattle.afr_base.specs.declared.ids.What.TheVariants.{File, Dir}
use Rattle.afr_object.specs.declared.entry.Entry.{Entry}
use Rattle.afr_lines.specs.declared.reply.Good.TheVariants as good
use Rattle.afr_plan.specs.Bytes as plan
use Rattle.afr_plan.specs.Bytes.{digit}
use Rattle.afr_plan.specs.Data.{hex_bytes, hex_value, is_paired}
use Rattle.afr_plan.specs.Reading.{◌>>=◌, as_a, checked, run_of, whole, word, word_then}
use Rattle.afr_plan.specs.declared.plan.Plan.{Plan}
use Rattle.afr_model.specs.ReportReplies.{hex_digit, hex_text}
use Rattle.afr_plan_read.proofs.Laws.{Any, bind_some, checked_some, first_of, Stops}
use Rattle.afr_trace_read.specs.Contents.{contents_text, is_some_paired, digits_at, value_given_at, gfid_if, gfid_told, gfid_at, file_of, dir_of, stat_at}
use Rattle.afr_trace_read.specs.Fit.{AreBytes, IsGfid, IsGivable, IsValueOf}
use Rattle.afr_trace_read.specs.Forms.{before}
use Rattle.afr_trace_read.specs.Parts.{value_at}
use Rattle.afr_trace_read.proofs.Laws.{Takes, Again, word-takes, word_then-takes, word_then-again, then_word-takes, then_word-again, both-takes, both-again, as-takes, as-again, either-takes, whole-takes}
use Rattle.afr_trace_read.proofs.NumberLaws.{run-takes, run-again, small-takes, small-again}
use Rattle.afr_trace_read.proofs.PartLaws.{value-takes, value-again, value_word}
use Rattle.afr_trace_read.proofs.WordLaws.{same_bytes}

-- ---- bytes
digit_is : (c : ℕ) → plan.hex_digit c ≡ true → (hex_value c < 16) × (hex_digit (hex_value c) ≡ c)
digit_is c h = (grind (arith, nat_tests, h), grind (arith, nat_tests, h))

pairs_are : (ds : List ℕ) → list_all plan.hex_digit ds ≡ true → is_paired ds ≡ true → AreBytes (hex_bytes ds) × (hex_text (hex_bytes ds) ≡ ds)
pairs_are [] h paired = (tt, refl)
pairs_are (a ∷ []) h paired = absurd (cc paired)
pairs_are (a ∷ b ∷ ds) h paired =
    let later : list_all plan.hex_digit (b ∷ ds) ≡ true = and_right (plan.hex_digit a) (list_all plan.hex_digit (b ∷ ds)) h in
    let one = digit_is a (and_left (plan.hex_digit a) (list_all plan.hex_digit (b ∷ ds)) h) in
    let two = digit_is b (and_left (plan.hex_digit b) (list_all plan.hex_digit ds) later) in
    let more = pairs_are ds (and_right (plan.hex_digit b) (list_all plan.hex_digit ds) later) paired in
    let n : ℕ = 16 * hex_value a + hex_value b in
    let small : n < 256 = omega (arith, one.0, two.0) in
    let high : n / 16 ≡ hex_value a = omega (arith, two.0) in
    let low : n % 16 ≡ hex_value b = omega (arith, two.0) in
    let first : hex_digit (n / 16) ≡ a = ap hex_digit high ∙ one.1 in
    let second : hex_digit (n % 16) ≡ b = ap hex_digit low ∙ two.1 in
    ((small, more.0), ap (λ (x : ℕ). x ∷ hex_digit (n % 16) ∷ hex_text (hex_bytes ds)) first ∙ ap (λ (x : ℕ). a ∷ x ∷ hex_text (hex_bytes ds)) second ∙ ap (λ (t : List ℕ). a ∷ b ∷ t) more.1)

-- digits, or a dash
abbrev digits_text : List ℕ → List ℕ
digits_text [] = codes " -"
digits_text (d ∷ ds) = codes " " ++ (d ∷ ds)

abbrev AreDigits : List ℕ → Type 0
AreDigits ds = (list_all plan.hex_digit ds ≡ true) × (is_paired ds ≡ true)

some_digits : (ds xs rest : List ℕ) → ((list_all plan.hex_digit ds ≡ true) × (is_some_paired ds ≡ true)) × (xs ≡ (codes " " ++ ds) ++ rest) → AreDigits ds × (xs ≡ digits_text ds ++ rest)
some_digits [] xs rest h = absurd (let e : false ≡ true = h.0.1 in cc e)
some_digits (d ∷ ds) xs rest h = h

spaced-takes : Takes (word_then (codes " ") (run_of plan.hex_digit is_some_paired)) digits_text AreDigits
spaced-takes = record { read = λ xs ds rest e. some_digits ds xs rest ((word_then-takes (codes " ") _ _ _ (run-takes plan.hex_digit is_some_paired)).read xs ds rest e) }

digits-takes : Takes digits_at digits_text AreDigits
unfolding digits_at
digits-takes = either-takes _ _ _ _ spaced-takes (word-takes (codes " -") [] _ _ (refl, refl) refl)

digits_contents : (p : Plan) (ds : List ℕ) → AreDigits ds → IsGivable p (good.Bytes (hex_bytes ds)) × (digits_text ds ≡ contents_text p.words (good.Bytes (hex_bytes ds)))
digits_contents p [] h = (tt, refl)
digits_contents p (a ∷ []) h = absurd (cc h.1)
digits_contents p (a ∷ b ∷ ds) h = let u = pairs_are (a ∷ b ∷ ds) h.0 h.1 in (u.0, ap (λ (t : List ℕ). codes " " ++ t) (sym u.1))

pub bytes_given : (p : Plan) (text ds : List ℕ) → whole digits_at text ≡ Some ds → IsGivable p (good.Bytes (hex_bytes ds)) × (text ≡ contents_text p.words (good.Bytes (hex_bytes ds)))
bytes_given p text ds e =
    let u = whole-takes digits_at digits_text AreDigits digits-takes text ds e in
    let v = digits_contents p ds u.0 in
    (v.0, u.1 ∙ v.1)

value_digit : (d : ℕ) → d < 16 → plan.hex_digit (hex_digit d) ≡ true
value_digit d l = grind (arith, nat_tests, l)

text_digits : (bs : List ℕ) → AreBytes bs → list_all plan.hex_digit (hex_text bs) ≡ true
text_digits [] h = refl
text_digits (b ∷ bs) h =
    let high : plan.hex_digit (hex_digit (b / 16)) ≡ true = value_digit (b / 16) (omega (arith, h.0)) in
    let low : plan.hex_digit (hex_digit (b % 16)) ≡ true = value_digit (b % 16) (omega arith) in
    rw (high, low) (text_digits bs h.1)

text_paired : (bs : List ℕ) → is_paired (hex_text bs) ≡ true
text_paired [] = refl
text_paired (b ∷ bs) = text_paired bs

-- digits of bytes, with nothing behind them
digits_read : (b : ℕ) (bs : List ℕ) → AreBytes (b ∷ bs) → digits_at ((codes " " ++ hex_text (b ∷ bs)) ++ []) ≡ Some (hex_text (b ∷ bs), [])
unfolding digits_at
digits_read b bs h =
    let ds : List ℕ = hex_text (b ∷ bs) in
    first_of (word_then (codes " ") (run_of plan.hex_digit is_some_paired) ((codes " " ++ ds) ++ [])) (word (codes " -") [] ((codes " " ++ ds) ++ [])) (ds, [])
    ((word_then-again (codes " ") _ _ _ _ (run-again plan.hex_digit is_some_paired)).read ds [] (text_digits (b ∷ bs) h, text_paired (b ∷ bs)) tt)

no_digits : digits_at (codes " -") ≡ Some ([], [])
unfolding digits_at
no_digits = refl

pub given_bytes : (p : Plan) (bytes : List ℕ) → AreBytes bytes → (ds : List ℕ) × (whole digits_at (contents_text p.words (good.Bytes bytes)) ≡ Some ds)
given_bytes p [] h = ([], rw no_digits refl)
given_bytes p (b ∷ bs) h =
    let ds : List ℕ = hex_text (b ∷ bs) in
    let here : digits_at (codes " " ++ ds) ≡ Some (ds, []) = ap digits_at (sym (append-nil (codes " " ++ ds))) ∙ digits_read b bs h in
    (ds, rw here refl)

-- ---- a value
pub value_given-takes : (p : Plan) → Takes (value_given_at p) (λ o. contents_text p.words (good.Value o)) (λ o. IsGivable p (good.Value o))
unfolding value_given_at
value_given-takes p = either-takes _ _ _ _ (as-takes Some _ _ _ _ _ (word_then-takes (codes " ") _ _ _ (value-takes p)) (λ x ok. (ok, refl))) (word-takes (codes " -") None _ _ tt refl)

-- ---- a gfid
rest_small : (x : ℕ) → x % 256 < 256
rest_small x = omega arith

byte_small : (i n : ℕ) → byte_at i n < 256
byte_small zero n = rest_small n
byte_small (suc i) n = rest_small (n / 256 ^ suc i)

each_small : (m n k : ℕ) → get_or (bytes_high_first m n) k 0 < 256
each_small zero n k = omega arith
each_small (suc m) n zero = byte_small m n
each_small (suc m) n (suc k) = each_small m n k

word_sixteen : (n : ℕ) → parsed (gfid_spelling n) ≡ Some (to_be_bytes w128 n)
unfolding gfid_spelling
word_sixteen n = sym (parses_hyphenated lower (to_be_bytes w128 n) (inl refl) refl (all_fit (to_be_bytes w128 n) (λ k l. each_small 16 n k)))

gfid_long : (n : ℕ) → length (gfid_spelling n) ≡ 36
unfolding gfid_spelling
gfid_long n = by_index_length 36 _

if_same : (g : Gfid) (n : ℕ) (w : List ℕ) → n ≡ g.0 → IsGfid g → w ≡ gfid_spelling g.0 → checked (nat_lt n (2 ^ 128) && bytes_eq (gfid_spelling n) w) (record { 0 = n }) ≡ Some g
if_same g n w e small same =
    let low : nat_lt g.0 (2 ^ 128) ≡ true = grind (arith, nat_tests, small) in
    let eq : bytes_eq (gfid_spelling g.0) (gfid_spelling g.0) ≡ true = (bytes_eq-Decides (gfid_spelling g.0) (gfid_spelling g.0)).1 refl in
    rw (e, same, low, eq) refl

told_again : (g : Gfid) → IsGfid g → gfid_told (gfid_spelling g.0) ≡ Some g
unfolding gfid_told
told_again g small = rw (word_sixteen g.0) (if_same g (from_be_bytes w128 (to_be_bytes w128 g.0)) (gfid_spelling g.0) (from_be_bytes-to_be_bytes_16 g.0 small) small refl)

gfid-takes : Takes gfid_at (λ g. gfid_spelling g.0) IsGfid
unfolding gfid_at gfid_told
gfid-takes = record {
  read = λ xs g rest e.
      let w : List ℕ = take 36 xs in
      let s = bind_some (gfid_told w) (before (drop 36 xs)) (g, rest) e in
      let f : ◌≡◌ {A = Gfid × List ℕ} (s.0, drop 36 xs) (g, rest) = cc in
      let t = bind_some (parsed w) (gfid_if w) s.0 s.1 in
      let n : ℕ = from_be_bytes w128 t.0 in
      let c = checked_some (nat_lt n (2 ^ 128) && bytes_eq (gfid_spelling n) w) (record { 0 = n }) s.0 t.2 in
      let low : nat_lt n (2 ^ 128) ≡ true = and_left _ (bytes_eq (gfid_spelling n) w) c.0 in
      let small : n < 2 ^ 128 = grind (arith, nat_tests, low) in
      let same : gfid_spelling n ≡ w = same_bytes (gfid_spelling n) w (and_right (nat_lt n (2 ^ 128)) (bytes_eq (gfid_spelling n) w) c.0) in
      let here : xs ≡ gfid_spelling n ++ drop 36 xs = sym (take-append-drop 36 xs) ∙ ap (λ (t : List ℕ). t ++ drop 36 xs) (sym same) in
      let Q : Gfid → Type 0 = λ z. IsGfid z × (xs ≡ gfid_spelling z.0 ++ drop 36 xs) in
      let P : Gfid × List ℕ → Type 0 = λ z. IsGfid z.0 × (xs ≡ gfid_spelling z.0.0 ++ z.1) in
      subst P f (subst Q c.1 (small, here));
}

gfid-again : Again gfid_at (λ g. gfid_spelling g.0) IsGfid Any
unfolding gfid_at
gfid-again = record { read = λ g rest ok n. rw (take_at (gfid_spelling g.0) rest 36 (gfid_long g.0), drop_at (gfid_spelling g.0) rest 36 (gfid_long g.0), told_again g ok) refl }

-- the first 36 characters of a text, or all that there are
first_taken : (xs : List ℕ) (n : ℕ) → n ≡ min (length xs) 36 → take n xs ≡ take 36 xs
first_taken xs n e = elim (cases_lt (length xs) 36) [
  | inl short ↦ take_all n xs (omega (arith, e, short)) ∙ sym (take_all 36 xs (omega (arith, short)))
  | inr long ↦ let same : n ≡ 36 = omega (arith, e, long) in ap (λ (m : ℕ). take m xs) same
]

first_dropped : (xs : List ℕ) (n : ℕ) → n ≡ min (length xs) 36 → take (length xs - n) (drop n xs) ≡ drop 36 xs
first_dropped xs n e =
    take_all (length xs - n) (drop n xs) (omega (arith, length-drop n xs)) ∙ elim (cases_lt (length xs) 36) [
      | inl short ↦ drop_all n xs (omega (arith, e, short)) ∙ sym (drop_all 36 xs (omega (arith, short)))
      | inr long ↦ let same : n ≡ 36 = omega (arith, e, long) in ap (λ (m : ℕ). drop m xs) same
    ]

pub gfid_front : (xs : List ℕ) (n : ℕ) (g : Gfid) → n ≡ min (length xs) 36 → Some g ≡ gfid_told (take n xs) → Some (g, take (length xs - n) (drop n xs)) ≡ gfid_at xs
unfolding gfid_at
gfid_front xs n g e f =
    let here : gfid_told (take 36 xs) ≡ Some g = ap gfid_told (sym (first_taken xs n e)) ∙ sym f in
    rw (first_dropped xs n e, here) refl

pub no_gfid_front : (xs : List ℕ) (n : ℕ) → n ≡ min (length xs) 36 → None ≡ gfid_told (take n xs) → None ≡ gfid_at xs
unfolding gfid_at
no_gfid_front xs n e f =
    let here : gfid_told (take 36 xs) ≡ None = ap gfid_told (sym (first_taken xs n e)) ∙ sym f in
    rw here refl

pub no_gfid : (w : List ℕ) → ((bytes : List ℕ) → parsed w ≡ Some bytes → ⊥) → None ≡ gfid_told w
unfolding gfid_told
no_gfid w h = step (parsed w) refl
  where
    step : (o : Option (List ℕ)) → parsed w ≡ o → None ≡ (o >>= gfid_if w)
    step None e = refl
    step (Some bytes) e = absurd (h bytes e)

-- ---- a stat
abbrev stat_end : Plan → Entry × ℕ → List ℕ
stat_end p x = contents_text p.words (good.Stat x.0 x.1)

abbrev IsStat : Entry × ℕ → Type 0
IsStat x = IsGfid x.0.gfid × (x.1 < 2 ^ 32)

pub stat-takes : (p : Plan) → Takes stat_at (stat_end p) IsStat
unfolding stat_at
stat-takes p = either-takes _ _ _ _
    (as-takes file_of _ _ _ _ _ (both-takes _ _ _ _ _ _ (then_word-takes _ (codes " ") _ _ (word_then-takes (codes " file ") _ _ _ gfid-takes)) small-takes) (λ x ok. (ok, append_assoc (codes " file " ++ gfid_spelling x.0.0) (codes " ") (decimal x.1))))
    (as-takes dir_of _ _ _ _ _ (word_then-takes (codes " dir ") _ _ _ gfid-takes) (λ g ok. ((ok, omega arith), sym (append-nil (codes " dir " ++ gfid_spelling g.0)))))

pub file_read : (g : Gfid) (len : ℕ) → IsGfid g → len < 2 ^ 32 → stat_at (((codes " file " ++ gfid_spelling g.0) ++ codes " " ++ decimal len) ++ []) ≡ Some (((record { gfid = g; what = File }), len), [])
unfolding stat_at
file_read g len ok l = first_of _ _ _ (as-again file_of _ _ _ _ (both-again _ _ _ _ _ _ Any (Stops digit) (then_word-again _ (codes " ") _ _ Any (word_then-again (codes " file ") _ _ _ _ gfid-again) (λ rest. tt)) small-again (λ y rest ok n. tt)) (g, len) [] (ok, l) tt)

pub dir_read : (g : Gfid) → IsGfid g → stat_at ((codes " dir " ++ gfid_spelling g.0) ++ []) ≡ Some (((record { gfid = g; what = Dir }), 0), [])
unfolding stat_at
dir_read g ok = as-again dir_of _ _ _ _ (word_then-again (codes " dir ") _ _ _ _ gfid-again) g [] ok tt

-- ---- a value that there is
pub value_read : (p : Plan) (value : ValueId) → IsValueOf p value → value_given_at p ((codes " " ++ value_word p value) ++ []) ≡ Some (Some value, [])
unfolding value_given_at
value_read p value ok =
    let text : List ℕ = (codes " " ++ value_word p value) ++ [] in
    first_of (as_a Some (word_then (codes " ") (value_at p)) text) (word (codes " -") None text) (Some value, [])
    (as-again Some _ _ _ _ (word_then-again (codes " ") _ _ _ _ (value-again p)) value [] ok tt)
