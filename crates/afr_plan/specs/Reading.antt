-- Readers: each takes a value off the front of some bytes, and leaves what follows it.
use Rattle.std.specs.Prelude.{ℕ, List, [], ◌∷◌, length, drop, Bool, ◌==◌, Option, Some, None, if◌then◌else◌, take_while}
use Rattle.afr_plan.specs.Bytes.{digit, path_byte, key_byte, text_byte, is_numeral, value, small_value, is_key, is_text}
use Rattle.afr_plan.specs.Paths.{names_in, is_path, is_named_path}

-- the second step, where the first gives something
infixl 10 ◌>>=◌
abbrev pub ◌>>=◌ : {A B : Type 0} → Option A → (A → Option B) → Option B
(Some x) >>= f = f x
None >>= f = None

-- what follows a word
abbrev pub after : List ℕ → List ℕ → Option (List ℕ)
after [] xs = Some xs
after (w ∷ ws) [] = None
after (w ∷ ws) (x ∷ xs) = if w == x then after ws xs else None

-- the longest front that passes, and the rest
abbrev pub front : (ℕ → Bool) → List ℕ → List ℕ × List ℕ
front p xs = (take_while p xs, drop (length (take_while p xs)) xs)

-- a value, where a test passes
abbrev pub checked : {A : Type 0} → Bool → A → Option A
checked ok x = if ok then Some x else None

-- a reader gives a value and what follows it
abbrev pub Reader : Type 0 → Type 0
Reader A = List ℕ → Option (A × List ℕ)

-- a word, and then what follows it by another reader
abbrev pub word_then : {A : Type 0} → List ℕ → Reader A → Reader A
word_then w q xs = after w xs >>= q

-- two values, and what follows
abbrev pub pair : {A B : Type 0} → A → B × List ℕ → Option ((A × B) × List ℕ)
pair x y = Some ((x, y.0), y.1)

-- the second value, beside the first
abbrev pub then_pair : {A B : Type 0} → Reader B → A × List ℕ → Option ((A × B) × List ℕ)
then_pair q x = q x.1 >>= pair x.0

-- one reader, and then another
abbrev pub both : {A B : Type 0} → Reader A → Reader B → Reader (A × B)
both r q xs = r xs >>= then_pair q

-- a fixed value
abbrev pub give : {A : Type 0} → A → Reader A
give x rest = Some (x, rest)

-- a word, which stands for a fixed value
abbrev pub word : {A : Type 0} → List ℕ → A → Reader A
word w x xs = after w xs >>= give x

-- the longest front of bytes that pass, where it passes as a whole
abbrev pub run_of : (ℕ → Bool) → (List ℕ → Bool) → Reader (List ℕ)
run_of p ok xs = checked (ok (take_while p xs)) (front p xs)

-- a value under another form
abbrev pub give_as : {A B : Type 0} → (A → B) → A × List ℕ → Option (B × List ℕ)
give_as f x = Some (f x.0, x.1)

-- a reader whose value is another form of another's
abbrev pub as_a : {A B : Type 0} → (A → B) → Reader A → Reader B
as_a f r xs = r xs >>= give_as f

-- a value with nothing after it
abbrev pub all_used : {A : Type 0} → A × List ℕ → Option A
all_used (x, []) = Some x
all_used (x, b ∷ bs) = None

-- a reader of all bytes
abbrev pub whole : {A : Type 0} → Reader A → List ℕ → Option A
whole r xs = r xs >>= all_used

-- the first of two that is there
abbrev pub or_else : {A : Type 0} → Option A → Option A → Option A
or_else (Some x) o = Some x
or_else None o = o

-- one of two readers, the first where both take the bytes
abbrev pub either : {A : Type 0} → Reader A → Reader A → Reader A
either r q xs = or_else (r xs) (q xs)

-- a key or a value
unfoldable pub key_at : Reader (List ℕ)
key_at = run_of key_byte is_key

-- a text
unfoldable pub text_at : Reader (List ℕ)
text_at = run_of text_byte is_text

-- a path
unfoldable pub path_at : Reader (List (List ℕ))
path_at = as_a names_in (run_of path_byte is_path)

-- a path other than `/`
unfoldable pub named_path_at : Reader (List (List ℕ))
named_path_at = as_a names_in (run_of path_byte is_named_path)

-- a number
unfoldable pub number_at : Reader ℕ
number_at = as_a value (run_of digit is_numeral)

-- a small number
unfoldable pub small_at : Reader ℕ
small_at = as_a small_value (run_of digit is_numeral)
