-- How the parts of a line are spelled: each is a relation between some bytes and what they stand for.
use Rattle.std.specs.Prelude.{◌≡◌, ℕ, List, ◌++◌, ◌⊎◌, Bool, true}
use Rattle.std.specs.List.{list_all}
use Rattle.afr_plan.specs.Bytes.{digit, path_byte, key_byte, text_byte, is_numeral, is_key, is_text, value, small_value}
use Rattle.afr_plan.specs.Paths.{names_in, is_path, is_named_path}

-- bytes that each pass one test and together pass another stand for themselves
abbrev pub IsRun : (ℕ → Bool) → (List ℕ → Bool) → List ℕ → List ℕ → Type 0
IsRun p ok w x = (w ≡ x) × (list_all p w ≡ true) × (ok w ≡ true)

-- a value under another form
abbrev pub As : {A B : Type 0} → (A → B) → (List ℕ → A → Type 0) → List ℕ → B → Type 0
As {A} f S w y = (x : A) × S w x × (f x ≡ y)

-- fixed bytes, and then something that stands for the value
abbrev pub WordThen : {A : Type 0} → List ℕ → (List ℕ → A → Type 0) → List ℕ → A → Type 0
WordThen word T w y = (v : List ℕ) × T v y × (w ≡ word ++ v)

-- two parts, one after the other, each with its value
abbrev pub Both : {A B : Type 0} → (List ℕ → A → Type 0) → (List ℕ → B → Type 0) → List ℕ → A × B → Type 0
Both S T w z = (u : List ℕ) × (v : List ℕ) × S u z.0 × T v z.1 × (w ≡ u ++ v)

-- fixed bytes, which stand for a fixed value
abbrev pub Word : {A : Type 0} → List ℕ → A → List ℕ → A → Type 0
Word word a w x = (w ≡ word) × (a ≡ x)

-- one of two forms
abbrev pub Either : {A : Type 0} → (List ℕ → A → Type 0) → (List ℕ → A → Type 0) → List ℕ → A → Type 0
Either S T w x = S w x ⊎ T w x

-- a key or a value, as it stands
abbrev pub IsKey : List ℕ → List ℕ → Type 0
IsKey = IsRun key_byte is_key

-- a text, as it stands
abbrev pub IsText : List ℕ → List ℕ → Type 0
IsText = IsRun text_byte is_text

-- a path, and its names
abbrev pub IsPath : List ℕ → List (List ℕ) → Type 0
IsPath = As names_in (IsRun path_byte is_path)

-- a path other than `/`, and its names
abbrev pub IsNamedPath : List ℕ → List (List ℕ) → Type 0
IsNamedPath = As names_in (IsRun path_byte is_named_path)

-- digits with no leading zero, and what they come to
abbrev pub IsNumber : List ℕ → ℕ → Type 0
IsNumber = As value (IsRun digit is_numeral)

-- the same of a small number
abbrev pub IsSmall : List ℕ → ℕ → Type 0
IsSmall = As small_value (IsRun digit is_numeral)
