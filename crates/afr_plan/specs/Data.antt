-- The three forms of data, and the bytes that each stands for.
use Rattle.std.specs.Prelude.{ℕ, List, [], ◌∷◌, ◌+◌, ◌-◌, ◌*◌, Bool, true, false, codes, replicate, if◌then◌else◌}
use Rattle.afr_plan.specs.Bytes.{digit, hex_digit}
use Rattle.afr_plan.specs.Spelling.{IsRun, As, WordThen, Both, Word, Either, IsNumber, IsText}

-- ---- digits
-- what a hexadecimal digit comes to, and 0 for any other byte
abbrev pub hex_value : ℕ → ℕ
hex_value d = if digit d then d - 48 else if hex_digit d then d - 87 else 0

-- the bytes of pairs of digits
abbrev pub hex_bytes : List ℕ → List ℕ
hex_bytes [] = []
hex_bytes (high ∷ []) = []
hex_bytes (high ∷ low ∷ more) = (16 * hex_value high + hex_value low) ∷ hex_bytes more

-- digits come in pairs
abbrev pub is_paired : List ℕ → Bool
is_paired [] = true
is_paired (high ∷ []) = false
is_paired (high ∷ low ∷ more) = is_paired more

-- there are two
abbrev pub is_pair : List ℕ → Bool
is_pair (high ∷ low ∷ []) = true
is_pair digits = false

-- the first of some bytes
abbrev pub first_byte : List ℕ → ℕ
first_byte [] = 0
first_byte (b ∷ bs) = b

-- ---- forms
-- what stands between the quotation marks
abbrev pub quoted_of : List ℕ × Unit {0} → List ℕ
quoted_of x = x.0

-- so many bytes of one value, whose digits are given
abbrev pub filled_of : ℕ × List ℕ → List ℕ
filled_of x = replicate x.0 (first_byte (hex_bytes x.1))

-- `"TEXT"`
abbrev pub IsQuoted : List ℕ → List ℕ → Type 0
IsQuoted = As quoted_of (WordThen (codes "\"") (Both IsText (Word (codes "\"") (tt {0}))))

-- `hex:` and an even number of digits
abbrev pub IsHexed : List ℕ → List ℕ → Type 0
IsHexed = As hex_bytes (WordThen (codes "hex:") (IsRun hex_digit is_paired))

-- `fill:N:HH`
abbrev pub IsFilled : List ℕ → List ℕ → Type 0
IsFilled = As filled_of (WordThen (codes "fill:") (Both IsNumber (WordThen (codes ":") (IsRun hex_digit is_pair))))

-- one of the three forms
abbrev pub IsData : List ℕ → List ℕ → Type 0
IsData = Either IsQuoted (Either IsHexed IsFilled)
