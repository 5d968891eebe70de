-- Cells, what a change does to them, and what a brick has there.
use Rattle.std.specs.Prelude.{ℕ, ◌-◌, ◌==◌, ◌&&◌, nat_le, Bool, false, List, Option, Some, None, length}
use Rattle.std.specs.BTreeMap.{is_at}
use Rattle.std.specs.Map.{lookup}
use Rattle.afr_base.specs.declared.ids.Gfid.{Gfid}
use Rattle.afr_base.specs.declared.ids.KeyId.{KeyId}
use Rattle.afr_base.specs.declared.ids.Kind.{Kind}
use Rattle.afr_base.specs.declared.ids.Kind.TheVariants as kind
use Rattle.afr_base.specs.declared.ids.NameId.{NameId}
use Rattle.afr_base.specs.declared.ids.ValueId.{ValueId}
use Rattle.afr_object.specs.Bytes.{byte_at, is_within}
use Rattle.afr_object.specs.Tables.{copy_at, key_cmp, name_cmp}
use Rattle.afr_object.specs.declared.change.Change.{Change}
use Rattle.afr_object.specs.declared.change.Change.TheVariants.{Write, Cut, SetAttr, Make, Remove}
use Rattle.afr_object.specs.declared.entry.Entry.{Entry}
use Rattle.afr_object.specs.Object.{Object}
use Rattle.afr_lines.specs.declared.line.Line.{Line}
use Rattle.afr_plan.specs.declared.plan.Plan.{Plan}
use Rattle.afr_model.specs.Tables.{holds}

-- a byte of a file, an attribute of an object, or a name of a directory
pub data Cell : Type 0 where
  Byte : Gfid → ℕ → Cell
  Attr : Gfid → KeyId → Cell
  Name : Gfid → NameId → Cell

-- the object of a cell
abbrev pub object_of_cell : Cell → Gfid
object_of_cell (Byte g i) = g
object_of_cell (Attr g key) = g
object_of_cell (Name g name) = g

-- the kind of a cell
abbrev pub kind_of_cell : Cell → Kind
kind_of_cell (Byte g i) = kind.Bytes
kind_of_cell (Attr g key) = kind.Attrs
kind_of_cell (Name g name) = kind.Names

-- what stands in a cell: a byte, a value or none, an entry or none
pub data Value : Type 0 where
  IsByte : ℕ → Value
  IsAttr : Option ValueId → Value
  IsEntry : Option Entry → Value

-- what a copy has in a cell; past the end of a file the byte is 0
abbrev pub value_in : Cell → Object → Value
value_in (Byte g i) o = IsByte (byte_at i o.content)
value_in (Attr g key) o = IsAttr (lookup (is_at (key_cmp key)) o.attrs)
value_in (Name g name) o = IsEntry (lookup (is_at (name_cmp name)) o.names)

-- what a cell has where nothing stands
abbrev pub nothing_in : Cell → Value
nothing_in (Byte g i) = IsByte 0
nothing_in (Attr g key) = IsAttr None
nothing_in (Name g name) = IsEntry None

-- the same, where the brick may lack the object
abbrev pub value_if : Cell → Option Object → Value
value_if cell None = nothing_in cell
value_if cell (Some o) = value_in cell o

-- what brick b has in a cell after the log
abbrev pub value_of : Plan → List Line → ℕ → Cell → Value
value_of p log b cell = value_if cell (copy_at (object_of_cell cell) (holds p log b))

-- whether a change touches a cell: a write its range, a cut all from its length on, each other change one attribute or one name
abbrev pub touches : Change → Cell → Bool
touches (Write g at bytes) (Byte h i) = (g.0 == h.0) && is_within at (length bytes) i
touches (Cut g len) (Byte h i) = (g.0 == h.0) && nat_le len i
touches (SetAttr g key value) (Attr h k) = (g.0 == h.0) && (key.0 == k.0)
touches (Make dir name g what) (Name h n) = (dir.0 == h.0) && (name.0 == n.0)
touches (Remove dir name what) (Name h n) = (dir.0 == h.0) && (name.0 == n.0)
touches change cell = false

-- what a change leaves in a cell that it touches: its byte, value or entry; a cut and a removal leave nothing
abbrev pub leaves : Change → Cell → Value
leaves (Write g at bytes) (Byte h i) = IsByte (byte_at (i - at) bytes)
leaves (SetAttr g key value) (Attr h k) = IsAttr (Some value)
leaves (Make dir name g what) (Name h n) = IsEntry (Some (record { gfid = g; what = what }))
leaves change cell = nothing_in cell
