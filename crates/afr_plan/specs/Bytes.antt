-- The bytes of a plan's words, and what its numbers come to.
use Rattle.std.specs.Prelude.{ℕ, List, [], ◌∷◌, Bool, true, false, ◌&&◌, ◌||◌, not, ◌==◌, nat_le, min, codes}
use Rattle.std.specs.Str.{bytes_eq}
use Rattle.std.specs.Str.Parse.{digits_value}

-- from `0` to `9`
abbrev pub digit : ℕ → Bool
digit b = nat_le 48 b && nat_le b 57

-- a letter of either case
abbrev pub letter : ℕ → Bool
letter b = (nat_le 97 b && nat_le b 122) || (nat_le 65 b && nat_le b 90)

-- a letter, a digit, `.`, `_` or `-`
abbrev pub name_byte : ℕ → Bool
name_byte b = letter b || digit b || b == 46 || b == 95 || b == 45

-- a byte of a name, or a slash
abbrev pub path_byte : ℕ → Bool
path_byte b = name_byte b || b == 47

-- a letter, a digit, `.` or `_`
abbrev pub key_byte : ℕ → Bool
key_byte b = letter b || digit b || b == 46 || b == 95

-- a digit, or a letter from `a` to `f`
abbrev pub hex_digit : ℕ → Bool
hex_digit b = digit b || (nat_le 97 b && nat_le b 102)

-- from a space to a tilde
abbrev pub plain : ℕ → Bool
plain b = nat_le 32 b && nat_le b 126

-- from a space to a tilde, but for the quotation mark
abbrev pub text_byte : ℕ → Bool
text_byte b = plain b && not (b == 34)

-- there are digits, and the first of several isn't 0
abbrev pub is_numeral : List ℕ → Bool
is_numeral [] = false
is_numeral (d ∷ []) = true
is_numeral (d ∷ e ∷ ds) = not (d == 48)

-- what digits come to; ten million stands for all that is above it
abbrev pub value : List ℕ → ℕ
value ds = min (digits_value 10 ds) 10000000

-- what digits come to where the number is small, as a brick's; 255 stands for all that is above it
abbrev pub small_value : List ℕ → ℕ
small_value ds = min (value ds) 255

-- a name isn't empty, doesn't begin with `-`, and is neither `.` nor `..`
abbrev pub is_name : List ℕ → Bool
is_name [] = false
is_name (b ∷ bs) = not (b == 45) && not (bytes_eq (b ∷ bs) (codes ".")) && not (bytes_eq (b ∷ bs) (codes ".."))

-- a key or a value isn't empty
abbrev pub is_key : List ℕ → Bool
is_key [] = false
is_key (b ∷ bs) = true

-- a text may be of any length, and empty
abbrev pub is_text : List ℕ → Bool
is_text bytes = true
