-- The parts of an image's bytes, and bytes as the image of their parts.
use Rattle.std.proofs.Common.{◌≡◌, ℕ, ◌+◌, ◌-◌, ◌*◌, ◌^◌, ◌<◌, ◌≤◌, Bool, true, false, Some, None, List, ◌++◌, inl, inr, not, nat_eq, nat_lt, get_or, length, take, drop, refl, sym, ◌∙◌, ap, arith, if◌then◌else◌}
use Rattle.std.specs.List.{starts_with}
use Rattle.std.proofs.lemmas.Bool.Decides.{Decides-eqb}
use Rattle.std.proofs.lemmas.Bool.{cases_lt, le-ltb, lt-ltb, ltb-false}
use Rattle.std.proofs.lemmas.List.{drop-drop, drop_at, get_or-drop, get_or-take, get_or_past, length-append, length-drop, length-take, length-take-le, take-append-drop, take_at}
use Rattle.std.proofs.lemmas.Nat.{be_bytes_4}
use Rattle.std.proofs.lemmas.Slice.Eq.{starts_is}
use Rattle.byteorder.specs.Endian.{big_bytes, big_number}
use Rattle.byteorder.specs.Numbers.{big_from-take, big_number-reads_back, length-bytes_high_first}
use Rattle.afr_image.specs.declared.image.ImageFault.{ImageFault}
use Rattle.afr_image.specs.declared.step.Step.{Step}
use Rattle.afr_image.specs.Frame.{bytes_with, count_at, end_of, frame_fault, refusal, magic, number_at, number_bytes, step_count, steps_at, steps_of_bytes, text_in, text_len}
use Rattle.afr_image.specs.Frames.{IsFramed}
use Rattle.afr_image.specs.Steps.{steps_bytes, steps_in}
use Rattle.afr_image.proofs.StepLemmas.{bytes_again, length-steps_bytes, length-steps_in, steps_again}

length-magic : length magic ≡ 8
unfolding magic
length-magic = refl

length-number_bytes : (n : ℕ) → length (number_bytes n) ≡ 4
unfolding number_bytes
length-number_bytes n = length-bytes_high_first 4 n

-- a number that stands at a place is read there
number_there : (at n : ℕ) (bytes rest : List ℕ) → n < 2 ^ 32 → drop at bytes ≡ number_bytes n ++ rest → number_at at bytes ≡ n
unfolding number_at number_bytes
number_there at n bytes rest small e = ap (big_number 4) e ∙ big_number-reads_back 4 n rest small

-- what stands behind a number
behind_number : (at n : ℕ) (bytes rest : List ℕ) → drop at bytes ≡ number_bytes n ++ rest → drop (at + 4) bytes ≡ rest
behind_number at n bytes rest e = sym (drop-drop 4 at bytes) ∙ ap (drop 4) e ∙ drop_at (number_bytes n) rest 4 (length-number_bytes n)

-- ---- the bytes of an image
-- the parts that bytes have
pub record HaveParts (bytes text : List ℕ) (steps : List Step) : Type 0 where
  pub begins : starts_with nat_eq bytes magic ≡ true
  pub ends : length bytes ≡ end_of bytes
  pub text_is : text_in bytes ≡ text
  pub count_is : step_count bytes ≡ length steps
  pub steps_are : steps_of_bytes bytes ≡ steps

pub parts_of_image : (bytes text : List ℕ) (steps : List Step) → length text < 2 ^ 32 → length steps < 2 ^ 32 → bytes ≡ bytes_with text steps → HaveParts bytes text steps
parts_of_image bytes text steps short few e =
    let tail : List ℕ = number_bytes (length steps) ++ steps_bytes steps in
    let d8 : drop 8 bytes ≡ number_bytes (length text) ++ (text ++ tail) = ap (drop 8) e ∙ drop_at magic (number_bytes (length text) ++ (text ++ tail)) 8 length-magic in
    let n8 : number_at 8 bytes ≡ length text = number_there 8 (length text) bytes (text ++ tail) short d8 in
    let d12 : drop 12 bytes ≡ text ++ tail = behind_number 8 (length text) bytes (text ++ tail) d8 in
    let dc : drop (12 + length text) bytes ≡ tail = sym (drop-drop (length text) 12 bytes) ∙ ap (drop (length text)) d12 ∙ drop_at text tail (length text) refl in
    let nc : number_at (12 + length text) bytes ≡ length steps = number_there (12 + length text) (length steps) bytes (steps_bytes steps) few dc in
    let count : step_count bytes ≡ length steps = ap (λ (n : ℕ). number_at (12 + n) bytes) n8 ∙ nc in
    let at : 12 + length text + 4 ≡ steps_at bytes = omega (arith, n8) in
    let ds : drop (steps_at bytes) bytes ≡ steps_bytes steps = ap (λ (n : ℕ). drop n bytes) (sym at) ∙ behind_number (12 + length text) (length steps) bytes (steps_bytes steps) dc in
    record {
      begins = (starts_is Decides-eqb bytes magic (starts_with nat_eq bytes magic) refl).1 (number_bytes (length text) ++ (text ++ tail)) e;
      ends = omega (arith, ap length e, length-append magic (number_bytes (length text) ++ (text ++ tail)), length-magic, length-append (number_bytes (length text)) (text ++ tail), length-number_bytes (length text), length-append text tail, length-append (number_bytes (length steps)) (steps_bytes steps), length-number_bytes (length steps), length-steps_bytes steps, n8, count);
      text_is = ap (λ (n : ℕ). take n (drop 12 bytes)) n8 ∙ ap (take (length text)) d12 ∙ take_at text tail (length text) refl;
      count_is = count;
      steps_are = ap steps_in ds ∙ steps_again steps;
    }

-- ---- bytes as an image
abbrev pub AreBytes : List ℕ → Type 0
AreBytes bytes = (i : ℕ) → get_or bytes i 0 < 256

front_of_bytes : (bytes : List ℕ) → AreBytes bytes → AreBytes (take 4 bytes)
front_of_bytes bytes small i = elim (cases_lt i 4) [
  | inl l ↦ omega (arith, get_or-take 4 bytes i 0 l, small i)
  | inr l ↦ omega (arith, get_or_past (take 4 bytes) i 0 (omega (arith, l, length-take 4 bytes)))
]

-- a number that is read in four bytes has these
four_again : (bytes : List ℕ) (n : ℕ) → 4 ≤ length bytes → AreBytes bytes → n ≡ big_number 4 bytes → big_bytes 4 n ≡ take 4 bytes
four_again bytes n long small is =
    let four : length (take 4 bytes) ≡ 4 = length-take-le 4 bytes long in
    let read : n ≡ big_number 4 (take 4 bytes) = is ∙ sym (big_from-take 0 4 4 bytes (omega arith)) in
    be_bytes_4 (take 4 bytes) n four (front_of_bytes bytes small) (omega (arith, read))

number_four : (at : ℕ) (bytes : List ℕ) → 4 ≤ length (drop at bytes) → AreBytes (drop at bytes) → number_bytes (number_at at bytes) ≡ take 4 (drop at bytes)
unfolding number_at number_bytes
number_four at bytes long small = four_again (drop at bytes) (big_number 4 (drop at bytes)) long small refl

-- what stands at a place is the number there, and the rest
number_again : (at : ℕ) (bytes : List ℕ) → AreBytes bytes → at + 4 ≤ length bytes → drop at bytes ≡ number_bytes (number_at at bytes) ++ drop (at + 4) bytes
number_again at bytes small within =
    let there : AreBytes (drop at bytes) = λ i. omega (arith, get_or-drop at bytes i 0, small (at + i)) in
    let same : number_bytes (number_at at bytes) ≡ take 4 (drop at bytes) = number_four at bytes (omega (arith, length-drop at bytes, within)) there in
    sym (take-append-drop 4 (drop at bytes)) ∙ ap (λ (l : List ℕ). l ++ drop 4 (drop at bytes)) (sym same) ∙ ap (λ (l : List ℕ). number_bytes (number_at at bytes) ++ l) (drop-drop 4 at bytes)

-- the bytes are those of their parts
pub image_of_parts : (bytes : List ℕ) → AreBytes bytes → starts_with nat_eq bytes magic ≡ true → length bytes ≡ end_of bytes → bytes ≡ bytes_with (text_in bytes) (steps_of_bytes bytes)
image_of_parts bytes small begins ends =
    let d0 : bytes ≡ magic ++ drop 8 bytes = (starts_is Decides-eqb bytes magic (starts_with nat_eq bytes magic) refl).0 begins ∙ ap (λ (n : ℕ). magic ++ drop n bytes) length-magic in
    let d8 : drop 8 bytes ≡ number_bytes (text_len bytes) ++ drop 12 bytes = number_again 8 bytes small (omega (arith, ends)) in
    let long : length (text_in bytes) ≡ text_len bytes = length-take-le (text_len bytes) (drop 12 bytes) (omega (arith, length-drop 12 bytes, ends)) in
    let d12 : drop 12 bytes ≡ text_in bytes ++ drop (count_at bytes) bytes = sym (take-append-drop (text_len bytes) (drop 12 bytes)) ∙ ap (λ (l : List ℕ). text_in bytes ++ l) (drop-drop (text_len bytes) 12 bytes) in
    let at : count_at bytes + 4 ≡ steps_at bytes = omega arith in
    let dc : drop (count_at bytes) bytes ≡ number_bytes (step_count bytes) ++ drop (steps_at bytes) bytes = number_again (count_at bytes) bytes small (omega (arith, ends)) ∙ ap (λ (n : ℕ). number_bytes (step_count bytes) ++ drop n bytes) at in
    let rest : length (drop (steps_at bytes) bytes) ≡ 3 * step_count bytes = omega (arith, length-drop (steps_at bytes) bytes, ends) in
    let many : length (steps_of_bytes bytes) ≡ step_count bytes = length-steps_in (drop (steps_at bytes) bytes) (step_count bytes) rest in
    let ds : steps_bytes (steps_of_bytes bytes) ≡ drop (steps_at bytes) bytes = bytes_again (drop (steps_at bytes) bytes) (step_count bytes) rest in
    d0
    ∙ ap (λ (l : List ℕ). magic ++ l) (d8 ∙ ap (λ (l : List ℕ). number_bytes (text_len bytes) ++ l) (d12 ∙ ap (λ (l : List ℕ). text_in bytes ++ l) (dc ∙ ap (λ (l : List ℕ). number_bytes (step_count bytes) ++ l) (sym ds))))
    ∙ ap (λ (n : ℕ). magic ++ (number_bytes n ++ (text_in bytes ++ (number_bytes (step_count bytes) ++ steps_bytes (steps_of_bytes bytes))))) (sym long)
    ∙ ap (λ (n : ℕ). magic ++ (number_bytes (length (text_in bytes)) ++ (text_in bytes ++ (number_bytes n ++ steps_bytes (steps_of_bytes bytes))))) (sym many)

-- the parts lie within the bytes
pub record AreWithin (bytes : List ℕ) : Type 0 where
  pub text : length (text_in bytes) ≡ text_len bytes
  pub many : length (steps_of_bytes bytes) ≡ step_count bytes
  pub long : 16 + text_len bytes + 3 * step_count bytes ≡ length bytes

pub parts_within : (bytes : List ℕ) → length bytes ≡ end_of bytes → AreWithin bytes
parts_within bytes ends = record {
  text = length-take-le (text_len bytes) (drop 12 bytes) (omega (arith, length-drop 12 bytes, ends));
  many = length-steps_in (drop (steps_at bytes) bytes) (step_count bytes) (omega (arith, length-drop (steps_at bytes) bytes, ends));
  long = sym ends;
}

-- ---- the fault of a frame
both_false : (a b : Bool) (y z : ImageFault) → (if a then Some y else (if b then Some z else None)) ≡ None → (a ≡ false) × (b ≡ false)
both_false true b y z h = absurd (cc h)
both_false false true y z h = absurd (cc h)
both_false false false y z h = (refl, refl)

chain_none : (begins : Bool) (len end : ℕ) (x y z : ImageFault) → (if not begins then Some x else (if nat_lt len end then Some y else (if nat_lt end len then Some z else None))) ≡ None → (begins ≡ true) × (len ≡ end)
chain_none false len end x y z h = absurd (cc h)
chain_none true len end x y z h =
    let tests = both_false (nat_lt len end) (nat_lt end len) y z h in
    let least : end ≤ len = ltb-false len end tests.0 in
    let most : len ≤ end = ltb-false end len tests.1 in
    (refl, omega (arith, least, most))

none_chain : (begins : Bool) (len end : ℕ) (x y z : ImageFault) → begins ≡ true → len ≡ end → (if not begins then Some x else (if nat_lt len end then Some y else (if nat_lt end len then Some z else None))) ≡ None
none_chain begins len end x y z b e =
    let f : nat_lt len end ≡ false = le-ltb len end (omega (arith, e)) in
    let g : nat_lt end len ≡ false = le-ltb end len (omega (arith, e)) in
    rw (b, f, g) refl

short_chain : (begins : Bool) (len end : ℕ) (x y z : ImageFault) → begins ≡ true → len < end → (if not begins then Some x else (if nat_lt len end then Some y else (if nat_lt end len then Some z else None))) ≡ Some y
short_chain begins len end x y z b h = rw (b, lt-ltb len end h) refl

long_chain : (begins : Bool) (len end : ℕ) (x y z : ImageFault) → begins ≡ true → end < len → (if not begins then Some x else (if nat_lt len end then Some y else (if nat_lt end len then Some z else None))) ≡ Some z
long_chain begins len end x y z b h =
    let f : nat_lt len end ≡ false = le-ltb len end (omega (arith, h)) in
    rw (b, f, lt-ltb end len h) refl

pub is_framed : (bytes : List ℕ) → starts_with nat_eq bytes magic ≡ true → length bytes ≡ end_of bytes → frame_fault bytes ≡ None
is_framed bytes b e = none_chain (starts_with nat_eq bytes magic) (length bytes) (end_of bytes) (refusal 0 11) (refusal (length bytes) 12) (refusal (end_of bytes) 15) b e

pub framed : (bytes : List ℕ) → frame_fault bytes ≡ None → (starts_with nat_eq bytes magic ≡ true) × (length bytes ≡ end_of bytes)
framed bytes h = chain_none (starts_with nat_eq bytes magic) (length bytes) (end_of bytes) (refusal 0 11) (refusal (length bytes) 12) (refusal (end_of bytes) 15) h

-- bytes that begin as an image does and end too early
pub short_fault : (bytes : List ℕ) → starts_with nat_eq bytes magic ≡ true → length bytes < end_of bytes → frame_fault bytes ≡ Some (refusal (length bytes) 12)
short_fault bytes b h = short_chain (starts_with nat_eq bytes magic) (length bytes) (end_of bytes) (refusal 0 11) (refusal (length bytes) 12) (refusal (end_of bytes) 15) b h

-- or go on behind the end
pub tail_fault : (bytes : List ℕ) → starts_with nat_eq bytes magic ≡ true → end_of bytes < length bytes → frame_fault bytes ≡ Some (refusal (end_of bytes) 15)
tail_fault bytes b h = long_chain (starts_with nat_eq bytes magic) (length bytes) (end_of bytes) (refusal 0 11) (refusal (length bytes) 12) (refusal (end_of bytes) 15) b h

-- or begin otherwise
other_chain : (begins : Bool) (len end : ℕ) (x y z : ImageFault) → begins ≡ false → (if not begins then Some x else (if nat_lt len end then Some y else (if nat_lt end len then Some z else None))) ≡ Some x
other_chain begins len end x y z b = rw b refl

pub other_start : (bytes : List ℕ) → starts_with nat_eq bytes magic ≡ false → frame_fault bytes ≡ Some (refusal 0 11)
other_start bytes b = other_chain (starts_with nat_eq bytes magic) (length bytes) (end_of bytes) (refusal 0 11) (refusal (length bytes) 12) (refusal (end_of bytes) 15) b

-- ---- the parts that are cut out
pub cut_parts : (bytes text : List ℕ) (count : ℕ) (steps : List ℕ) → frame_fault bytes ≡ None → text ≡ text_in bytes → count ≡ step_count bytes → steps ≡ drop (steps_at bytes) bytes → IsFramed bytes text count steps
cut_parts bytes text count steps none t n s =
    let frame = framed bytes none in
    let within = parts_within bytes frame.1 in
    let text_is : length text ≡ text_len bytes = ap length t ∙ within.text in
    let rest : length steps ≡ length bytes - steps_at bytes = ap length s ∙ length-drop (steps_at bytes) bytes in
    record {
      frame = none;
      text_is = t;
      count_is = n;
      steps_is = s;
      first = omega (arith, text_is);
      long = omega (arith, text_is, rest, within.long);
      three = omega (arith, rest, n, within.long);
    }
