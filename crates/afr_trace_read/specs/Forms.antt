-- Readers that a trace needs beside those of a plan.
use Rattle.std.specs.Prelude.{ℕ, List, [], ◌∷◌, ◌^◌, Bool, Option, Some, None, nat_lt, position}
use Rattle.std.specs.Borrow.{Bor}
use Rattle.std.specs.Str.{bytes_eq}
use Rattle.std.specs.Str.Parse.{digits_value}
use Rattle.afr_plan.specs.Bytes.{digit, is_numeral}
use Rattle.afr_plan.specs.Reading.{◌>>=◌, Reader, after, checked, either, give, run_of, word}

-- a value, and then a word
abbrev pub skip_then : {A : Type 0} → List ℕ → A × List ℕ → Option (A × List ℕ)
skip_then w x = after w x.1 >>= give x.0

-- a reader, and then a word
abbrev pub then_word : {A : Type 0} → Reader A → List ℕ → Reader A
then_word r w xs = r xs >>= skip_then w

-- a value that passes
abbrev pub that_passes : {A : Type 0} → (A → Bool) → A × List ℕ → Option (A × List ℕ)
that_passes p x = checked (p x.0) x

-- a reader whose value passes a test
abbrev pub such_that : {A : Type 0} → Reader A → (A → Bool) → Reader A
such_that r p xs = r xs >>= that_passes p

-- what digits come to, where it is below a bound
abbrev pub below : ℕ → List ℕ × List ℕ → Option (ℕ × List ℕ)
below bound x = checked (nat_lt (digits_value 10 x.0) bound) (digits_value 10 x.0, x.1)

-- a number below a bound, with no leading zero
unfoldable pub number_below : ℕ → Reader ℕ
number_below bound xs = run_of digit is_numeral xs >>= below bound

-- where a word stands among some words
abbrev pub place_in : List (List ℕ) → List ℕ → Option ℕ
place_in words w = position (bytes_eq w) words

-- a value before some bytes
abbrev pub before : {A : Type 0} → List ℕ → A → Option (A × List ℕ)
before rest x = Some (x, rest)

-- the place of a word that was read
abbrev pub find_in : List (List ℕ) → List ℕ × List ℕ → Option (ℕ × List ℕ)
find_in words x = place_in words x.0 >>= before x.1

-- a word, by its place among some words
unfoldable pub word_among : (ℕ → Bool) → (List ℕ → Bool) → List (List ℕ) → Reader ℕ
word_among p ok words xs = run_of p ok xs >>= find_in words

-- a number of 32 bits
abbrev pub is_small : ℕ → Bool
is_small n = nat_lt n (2 ^ 32)

-- the first of some words that stands there, by what it stands for
abbrev pub first_of : {A : Type 0} → List (List ℕ × A) → Reader A
first_of [] xs = None
first_of (w ∷ []) xs = word w.0 w.1 xs
first_of (w ∷ v ∷ ws) xs = either (word w.0 w.1) (first_of (v ∷ ws)) xs

-- a word in memory, and what it stands for
abbrev pub said : {A : Type 0} → Bor (List ℕ) × A → List ℕ × A
said w = (w.0.now, w.1)
