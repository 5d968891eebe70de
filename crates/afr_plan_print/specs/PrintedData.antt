-- How bytes are printed: in the shortest of the three forms of data.
use Rattle.std.specs.Prelude.{ℕ, List, [], ◌∷◌, ◌++◌, length, Bool, ◌==◌, nat_le, codes, decimal, Option, Some, None, if◌then◌else◌}
use Rattle.std.specs.List.{list_all}
use Rattle.hex.specs.Hex.{encode_lower}
use Rattle.afr_plan.specs.Bytes.{text_byte}

-- the bytes between quotation marks
abbrev pub text_form : List ℕ → List ℕ
text_form bytes = codes "\"" ++ (bytes ++ codes "\"")

-- two digits for each byte
abbrev pub hex_form : List ℕ → List ℕ
hex_form bytes = codes "hex:" ++ encode_lower bytes

-- how often a byte is repeated, and its two digits
abbrev pub fill_form : ℕ → ℕ → List ℕ
fill_form n b = codes "fill:" ++ (decimal n ++ (codes ":" ++ encode_lower (b ∷ [])))

-- each of the bytes may stand in a text
abbrev pub is_text_data : List ℕ → Bool
is_text_data bytes = list_all text_byte bytes

-- the one byte that all are, if there is one
abbrev pub only_byte : List ℕ → Option ℕ
only_byte [] = None
only_byte (b ∷ bs) = if list_all (λ x. x == b) bs then Some b else None

-- a text, where the bytes may stand in one
abbrev pub text_forms : List ℕ → List (List ℕ)
text_forms bytes = if is_text_data bytes then text_form bytes ∷ [] else []

-- a fill, where all bytes are the same
abbrev pub fill_forms : ℕ → Option ℕ → List (List ℕ)
fill_forms n None = []
fill_forms n (Some b) = fill_form n b ∷ []

-- the forms that spell some bytes
abbrev pub data_forms : List ℕ → List (List ℕ)
data_forms bytes = text_forms bytes ++ hex_form bytes ∷ fill_forms (length bytes) (only_byte bytes)

-- the first of two words, unless the second is shorter
abbrev pub shorter : List ℕ → List ℕ → List ℕ
shorter first second = if nat_le (length first) (length second) then first else second

-- the shortest of some words, and of equally short ones the first
abbrev pub shortest : List (List ℕ) → List ℕ
shortest [] = []
shortest (w ∷ []) = w
shortest (w ∷ v ∷ ws) = shorter w (shortest (v ∷ ws))

-- bytes are printed in the shortest of their forms
abbrev pub data_text : List ℕ → List ℕ
data_text bytes = shortest (data_forms bytes)
