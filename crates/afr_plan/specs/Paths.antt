-- The names of a path.
use Rattle.std.specs.Prelude.{ℕ, List, [], ◌∷◌, Option, Some, None, Bool, true, false, ◌&&◌, ◌==◌, if◌then◌else◌}
use Rattle.std.specs.List.{list_all}
use Rattle.afr_plan.specs.Bytes.{is_name}

-- a byte goes in front of the first piece
abbrev pub in_first : ℕ → List (List ℕ) → List (List ℕ)
in_first b [] = (b ∷ []) ∷ []
in_first b (piece ∷ more) = (b ∷ piece) ∷ more

-- the pieces between slashes
abbrev pub pieces : List ℕ → List (List ℕ)
pieces [] = [] ∷ []
pieces (b ∷ bs) = if b == 47 then [] ∷ pieces bs else in_first b (pieces bs)

-- the pieces of what is left, if something is
abbrev pub pieces_of : Option (List ℕ) → List (List ℕ)
pieces_of None = []
pieces_of (Some bytes) = pieces bytes

-- the names of a path: what its slashes begin, and nothing in `/` alone
abbrev pub names_in : List ℕ → List (List ℕ)
names_in [] = []
names_in (slash ∷ []) = []
names_in (slash ∷ b ∷ bs) = pieces (b ∷ bs)

-- a path begins with a slash, and its names are such
abbrev pub is_path : List ℕ → Bool
is_path [] = false
is_path (b ∷ bs) = b == 47 && list_all is_name (names_in (b ∷ bs))

-- there are names
abbrev pub has_names : List (List ℕ) → Bool
has_names [] = false
has_names (name ∷ more) = true

-- a path with a name in it
abbrev pub is_named_path : List ℕ → Bool
is_named_path bytes = is_path bytes && has_names (names_in bytes)
