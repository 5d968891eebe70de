-- How much of some bytes went over, and how many bytes came.
use Rattle.std.specs.Prelude.{ℕ, ◌<◌, ◌≤◌, List, length, take, Option}
use Rattle.std.specs.Io.KnownBytes.{Appends, Consumes}

-- the known bytes grew by a front of these bytes
abbrev pub AppendsFront : Option (List ℕ) → Option (List ℕ) → List ℕ → Type 0
AppendsFront old new bytes = (count : ℕ) × (count ≤ length bytes) × Appends old new (take count bytes)

-- some bytes came, perhaps none
abbrev pub CameSome : Option (List ℕ) → Option (List ℕ) → Type 0
CameSome old new = (bytes : List ℕ) × Consumes old new bytes

-- more bytes came than the limit allows
abbrev pub CameMore : Option (List ℕ) → Option (List ℕ) → ℕ → Type 0
CameMore old new limit = (bytes : List ℕ) × Consumes old new bytes × (limit < length bytes)
