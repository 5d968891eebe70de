-- The words of a plan, numbered by first sight.
use Rattle.std.specs.Prelude.{ℕ, List, [], ◌∷◌, ◌++◌, if◌then◌else◌, codes, decimal, suc, zero}
use Rattle.std.specs.List.{list_any, position_or_len}
use Rattle.std.specs.Str.{bytes_eq}

-- the names with one more, at the end where it is new
abbrev pub with_name : List (List ℕ) → List ℕ → List (List ℕ)
with_name names name = if list_any (bytes_eq name) names then names else names ++ name ∷ []

-- the names with those of a path, one after the other
abbrev pub with_names : List (List ℕ) → List (List ℕ) → List (List ℕ)
with_names names [] = names
with_names names (name ∷ path) = with_names (with_name names name) path

-- the number of a name: its place, or the place after all
abbrev pub number_of : List (List ℕ) → List ℕ → ℕ
number_of names name = position_or_len (bytes_eq name) names

-- the name of an opening file, by its number from 1
abbrev pub file_name : ℕ → List ℕ
file_name k = codes "f" ++ decimal k

-- the names of the first opening files, `f1` and so on
abbrev pub file_names : ℕ → List (List ℕ)
file_names zero = []
file_names (suc k) = file_names k ++ file_name (suc k) ∷ []
