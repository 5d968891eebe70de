-- A changelog attribute: its name, and its value as three numbers, as twelve bytes and as text.
use Rattle.std.specs.Prelude.{ℕ, List, [], ◌∷◌, ◌++◌, codes, decimal, drop, flat_map, slice_index}
use Rattle.byteorder.specs.Endian.{big_bytes, big_number}
use Rattle.hex.specs.Hex.{encode_lower}
use Rattle.afr_base.specs.declared.marks.AllMarks.{AllMarks}
use Rattle.afr_base.specs.declared.marks.Marks.{Marks}
use Rattle.afr_marks.specs.declared.attribute.Which.{Which}
use Rattle.afr_marks.specs.declared.attribute.Which.TheVariants.{Dirty, Client}

-- the number of an attribute for one kind: the operations that are open, or those that a brick missed, 0 for a brick that is not one of the five
abbrev pub number : Which → Marks → ℕ
number Dirty marks = marks.dirty
number (Client brick) marks = slice_index marks.pending brick.0

-- the three numbers of an attribute: for data, for metadata and for entries
abbrev pub numbers : Which → AllMarks → List ℕ
numbers which all = number which all.bytes ∷ number which all.attrs ∷ number which all.names ∷ []

-- numbers as the bytes of a value: each takes four, the highest first
abbrev pub value : List ℕ → List ℕ
value ns = flat_map (big_bytes 4) ns

-- the three numbers that a value has
abbrev pub numbers_in : List ℕ → List ℕ
numbers_in bytes = big_number 4 bytes ∷ big_number 4 (drop 4 bytes) ∷ big_number 4 (drop 8 bytes) ∷ []

-- a value as text
abbrev pub text_of : List ℕ → List ℕ
text_of bytes = codes "0x" ++ encode_lower bytes

-- the name of an attribute
abbrev pub name_of : Which → List ℕ
name_of Dirty = codes "trusted.afr.dirty"
name_of (Client brick) = codes "trusted.afr.vol-client-" ++ decimal brick.0
