-- The bytes that a file's pages keep, and what each call makes of them.
use Rattle.std.specs.Prelude.{ℕ, zero, suc, ◌+◌, ◌-◌, ◌*◌, ◌/◌, ◌%◌, ◌<◌, ◌≤◌, min, max, Bool, nat_lt, if◌then◌else◌, List, [], length, take, drop, map, Option, Some, None}
use Rattle.std.specs.BTreeMap.{is_at}
use Rattle.std.specs.FinSet.{FinSet, empty, insert}
use Rattle.std.specs.List.{range_with_len}
use Rattle.std.specs.Map.{lookup}
use Rattle.std.specs.Ordering.{nat_cmp}
use Rattle.afr_object.specs.Bytes.{written, zeroed, byte_at}
use Rattle.afr_content.specs.FileContent.{FileContent}

-- a page: its bytes as far as any was written, after which all are zeros, and how many it has memory for
pub record PageBytes : Type 0 where
  pub bytes : List ℕ
  pub room : ℕ

-- the bytes of a page, none where there is no page
abbrev pub bytes_of : Option PageBytes → List ℕ
bytes_of None = []
bytes_of (Some page) = page.bytes

-- the memory of a page, none where there is no page
abbrev pub room_of : Option PageBytes → ℕ
room_of None = 0
room_of (Some page) = page.room

-- the bytes that the page of a number keeps
abbrev pub kept : List (ℕ × PageBytes) → ℕ → List ℕ
kept pages number = bytes_of (lookup (is_at (nat_cmp number)) pages)

-- the memory that the page of a number has
abbrev pub room_at : List (ℕ × PageBytes) → ℕ → ℕ
room_at pages number = room_of (lookup (is_at (nat_cmp number)) pages)

-- the byte at a place of a file whose pages keep these bytes
abbrev pub byte_in : (ℕ → List ℕ) → ℕ → ℕ
byte_in pages i = byte_at (i % 4096) (pages (i / 4096))

-- a page is there if it keeps a byte
abbrev pub is_there : (ℕ → List ℕ) → ℕ → Bool
is_there pages number = nat_lt 0 (length (pages number))

-- the numbers below n of the pages that are there
unfoldable pub numbers_below : ℕ → (ℕ → List ℕ) → FinSet nat_cmp
numbers_below zero pages = empty
numbers_below (suc n) pages = if is_there pages n then insert (numbers_below n pages) n else numbers_below n pages

-- the first bytes of a file whose pages keep these bytes
abbrev pub bytes_below : ℕ → (ℕ → List ℕ) → List ℕ
bytes_below len pages = map (byte_in pages) (range_with_len 0 len)

-- what a caller sees of a file of this length whose pages keep these bytes
abbrev pub file_of : ℕ → (ℕ → List ℕ) → FileContent
file_of len pages = record { bytes = bytes_below len pages; pages = numbers_below 256 pages }

-- pages keep at most 4,096 bytes each and none past the file's end, which is at most 1,048,576
pub record IsFile (len : ℕ) (pages : ℕ → List ℕ) : Type 0 where
  pub few : len ≤ 1048576
  pub short : (number : ℕ) → length (pages number) ≤ 4096
  pub within : (number : ℕ) → 0 < length (pages number) → number * 4096 + length (pages number) ≤ len

-- where a span from an offset on begins in the page of a number, or the page's begin
abbrev pub start_in : ℕ → ℕ → ℕ
start_in at number = max at (number * 4096)

-- where a span up to an offset ends in the page of a number, or the page's end
abbrev pub end_in : ℕ → ℕ → ℕ
end_in end number = min end (number * 4096 + 4096)

-- the bytes of a write that fall into the page of a number
abbrev pub part : ℕ → List ℕ → ℕ → List ℕ
part at bytes number = take ((end_in (at + length bytes) number - at) - (start_in at number - at)) (drop (start_in at number - at) bytes)

-- what each page keeps after a write
abbrev pub overlaid : ℕ → List ℕ → (ℕ → List ℕ) → ℕ → List ℕ
overlaid at bytes pages number = written (start_in at number - number * 4096) (part at bytes number) (pages number)

-- what each page keeps after the bytes from one offset up to another are made zero
abbrev pub cleared : ℕ → ℕ → (ℕ → List ℕ) → ℕ → List ℕ
cleared from to pages number = zeroed (from - number * 4096) (to - number * 4096) (pages number)

-- what each page keeps after a cut
abbrev pub shortened : ℕ → (ℕ → List ℕ) → ℕ → List ℕ
shortened len pages number = take (len - number * 4096) (pages number)
