-- What the calls make of a file's bytes.
use Rattle.std.specs.Prelude.{ℕ, ◌+◌, ◌-◌, min, max, Bool, ◌&&◌, nat_le, nat_lt, List, [], ◌∷◌, ◌++◌, length, take, drop, replicate, slice_index}

-- so many zeros
abbrev pub zeros : ℕ → List ℕ
zeros n = replicate n 0

-- the bytes, and zeros behind them up to a length
abbrev pub padded : ℕ → List ℕ → List ℕ
padded n old = old ++ zeros (n - length old)

-- these bytes at an offset; a gap is zeros, and no bytes change nothing
abbrev pub written : ℕ → List ℕ → List ℕ → List ℕ
written at [] old = old
written at (b ∷ bs) old = take at (padded (at + length (b ∷ bs)) old) ++ (b ∷ bs) ++ drop (at + length (b ∷ bs)) (padded (at + length (b ∷ bs)) old)

-- the present bytes from one offset up to another are zeros, and the length stays
abbrev pub zeroed : ℕ → ℕ → List ℕ → List ℕ
zeroed from to bytes = take from bytes ++ zeros (min to (length bytes) - from) ++ drop (max from to) bytes

-- these bytes at an offset, and zeros in what is present of the rest of the span
abbrev pub copied_in : ℕ → ℕ → List ℕ → List ℕ → List ℕ
copied_in at span bytes old = zeroed (at + length bytes) (at + span) (written at bytes old)

-- the byte at a place, or 0 past the end
abbrev pub byte_at : ℕ → List ℕ → ℕ
byte_at i bytes = slice_index bytes i

-- a place is one of the n places from an offset on
abbrev pub is_within : ℕ → ℕ → ℕ → Bool
is_within at n i = nat_le at i && nat_lt i (at + n)
