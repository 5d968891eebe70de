-- Cells, what touches them, and the areas that cover them.
use Rattle.std.specs.Prelude.{ℕ, ◌+◌, ◌-◌, ◌*◌, ◌^◌, not, Bool, true, false, ◌&&◌, ◌==◌, nat_le, nat_lt, length, slice_index, Option, None, Some}
use Rattle.afr_base.specs.declared.ids.Kind.{Kind}
use Rattle.afr_base.specs.declared.ids.Kind.TheVariants.{Bytes, Attrs, Names}
use Rattle.afr_lines.specs.declared.request.Area.{Area}
use Rattle.afr_lines.specs.declared.request.Area.TheVariants.{Range, Name}
use Rattle.afr_base.specs.declared.ids.What.{What}
use Rattle.afr_base.specs.declared.ids.What.TheVariants.{File, Dir}
use Rattle.afr_base.specs.declared.ids.NameId.{NameId}
use Rattle.afr_object.specs.declared.change.Change.{Change}
use Rattle.afr_object.specs.declared.change.Change.TheVariants.{Write, Cut, SetAttr, Make, Remove}

-- a byte of a file, an attribute of an object, or a name of a directory, by numbers
pub data Cell : Type 0 where
  Byte : ℕ → ℕ → Cell
  Attr : ℕ → ℕ → Cell
  Entry : ℕ → ℕ → Cell

-- the object of a cell
abbrev pub object_of : Cell → ℕ
object_of (Byte g i) = g
object_of (Attr g k) = g
object_of (Entry g n) = g

-- the kind of a cell
abbrev pub kind_of : Cell → Kind
kind_of (Byte g i) = Bytes
kind_of (Attr g k) = Attrs
kind_of (Entry g n) = Names

-- a file is 1, a directory 2, and 0 is no object
abbrev pub what_code : What → ℕ
what_code File = 1
what_code Dir = 2

-- an entry as a number: the greater gfid is the greater number
unfoldable pub entry_code : ℕ → What → ℕ
entry_code g what = 2 * g + what_code what

-- whether an object of this kind has such cells
abbrev pub fits : ℕ → Cell → Bool
fits k (Byte g i) = k == 1
fits k (Attr g a) = not (k == 0)
fits k (Entry g n) = k == 2

-- bytes have places below 2^63
abbrev pub is_cell : Cell → Bool
is_cell (Byte g i) = nat_lt i (2 ^ 63)
is_cell (Attr g k) = true
is_cell (Entry g n) = true

-- whether a change writes the cell
unfoldable pub touches : Change → Cell → Bool
touches (Write g at bytes) (Byte h i) = (g.0 == h) && nat_le at i && nat_lt i (at + length bytes) && nat_lt i (2 ^ 63)
touches (Cut g len) (Byte h i) = (g.0 == h) && nat_le len i && nat_lt i (2 ^ 63)
touches (SetAttr g key value) (Attr h k) = (g.0 == h) && (key.0 == k)
touches (Make dir name g what) (Entry h n) = (dir.0 == h) && (name.0 == n)
touches (Remove dir name what) (Entry h n) = (dir.0 == h) && (name.0 == n)
touches _ _ = false

-- what a cell holds, as a number: a byte, or 0 for nothing and more for something
unfoldable pub leaves : Change → Cell → ℕ
leaves (Write g at bytes) (Byte h i) = slice_index bytes (i - at)
leaves (SetAttr g key value) (Attr h k) = value.0 + 1
leaves (Make dir name g what) (Entry h n) = entry_code g.0 what
leaves _ _ = 0

-- None stands for the whole directory
abbrev pub is_name : Option NameId → ℕ → Bool
is_name None n = true
is_name (Some m) n = m.0 == n

-- attributes are locked by the one number 2^63 of a range
unfoldable pub covers : Area → Cell → Bool
covers (Range g from to) (Byte h i) = (g.0 == h) && nat_le from i && nat_lt i to
covers (Range g from to) (Attr h k) = (g.0 == h) && nat_le from (2 ^ 63) && nat_lt (2 ^ 63) to
covers (Name g name) (Entry h n) = (g.0 == h) && is_name name n
covers _ _ = false
