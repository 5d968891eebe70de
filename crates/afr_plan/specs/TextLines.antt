-- The lines of a text, each ended by one line feed.
use Rattle.std.specs.Prelude.{ℕ, List, [], ◌∷◌, ◌++◌, ◌==◌, if◌then◌else◌, flat_map, Option, Some, None}

-- the bytes before each line feed, and those after the last
pub record Text : Type 0 where
  pub lines : List (List ℕ)
  pub tail : List ℕ

-- a byte other than a line feed goes in front of the first line
abbrev pub with_byte : ℕ → List (List ℕ) → List ℕ → Text
with_byte b [] tail = record { lines = []; tail = b ∷ tail }
with_byte b (line ∷ lines) tail = record { lines = (b ∷ line) ∷ lines; tail = tail }

-- a text, cut at its line feeds
abbrev pub text_of : List ℕ → Text
text_of [] = record { lines = []; tail = [] }
text_of (b ∷ bs) = if b == 10 then record { lines = [] ∷ (text_of bs).lines; tail = (text_of bs).tail } else with_byte b (text_of bs).lines (text_of bs).tail

-- lines as bytes, each with its line feed
abbrev pub bytes_of : List (List ℕ) → List ℕ
bytes_of lines = flat_map (λ line. line ++ 10 ∷ []) lines

-- one byte more in front of the first line
abbrev pub in_front : ℕ → Option (List ℕ × List ℕ) → Option (List ℕ × List ℕ)
in_front b None = None
in_front b (Some x) = Some (b ∷ x.0, x.1)

-- what stands before the first line feed, and what follows it
abbrev pub cut_of : List ℕ → Option (List ℕ × List ℕ)
cut_of [] = None
cut_of (b ∷ bs) = if b == 10 then Some ([], bs) else in_front b (cut_of bs)
