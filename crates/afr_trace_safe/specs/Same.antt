-- Whether two values are the same, as a test.
use Rattle.std.specs.Prelude.{◌==◌, ◌&&◌, Bool, true, false, Option, Some, None}
use Rattle.afr_base.specs.Kinds.{same_what}
use Rattle.afr_base.specs.declared.ids.ValueId.{ValueId}
use Rattle.afr_object.specs.declared.entry.Entry.{Entry}
use Rattle.afr_model.specs.Cells.{Value, IsByte, IsAttr, IsEntry}

-- two values of an attribute, or none
abbrev pub same_attr : Option ValueId → Option ValueId → Bool
same_attr None None = true
same_attr (Some v) (Some w) = v.0 == w.0
same_attr v w = false

-- two entries of a name, or none
abbrev pub same_entry : Option Entry → Option Entry → Bool
same_entry None None = true
same_entry (Some e) (Some f) = (e.gfid.0 == f.gfid.0) && same_what e.what f.what
same_entry e f = false

-- two values
abbrev pub same_value : Value → Value → Bool
same_value (IsByte m) (IsByte n) = m == n
same_value (IsAttr v) (IsAttr w) = same_attr v w
same_value (IsEntry e) (IsEntry f) = same_entry e f
same_value v w = false
