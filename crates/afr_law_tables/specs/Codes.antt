-- Kinds of copies and values of cells as numbers.
use Rattle.std.specs.Prelude.{ℕ, ◌+◌, ◌&&◌, nat_lt, Bool, Option, None, Some}
use Rattle.afr_base.specs.declared.ids.Kind.{Kind}
use Rattle.afr_object.specs.Tables.{Table, copy_at}
use Rattle.afr_object.specs.Object.{Object}
use Rattle.afr_base.specs.Keeping.{keeps}
use Rattle.afr_plan.specs.declared.plan.Plan.{Plan}
use Rattle.afr_model.specs.Cells.{Value, IsByte, IsAttr, IsEntry, value_if, object_of_cell}
use Rattle.afr_model.specs.Cells as model
use Rattle.afr_model_moves.specs.Cells.{Cell, Byte, Attr, Entry, what_code, entry_code}

-- the kind of a copy; 0 is no copy
abbrev pub kind_code : Option Object → ℕ
kind_code None = 0
kind_code (Some o) = what_code o.what

-- a value as a number; 0 is nothing
abbrev pub value_code : Value → ℕ
value_code (IsByte n) = n
value_code (IsAttr None) = 0
value_code (IsAttr (Some v)) = v.0 + 1
value_code (IsEntry None) = 0
value_code (IsEntry (Some e)) = entry_code e.gfid.0 e.what

-- the cell with these numbers
abbrev pub cell_by : Cell → model.Cell
cell_by (Byte g i) = model.Byte (record { 0 = g }) i
cell_by (Attr g k) = model.Attr (record { 0 = g }) (record { 0 = k })
cell_by (Entry g n) = model.Name (record { 0 = g }) (record { 0 = n })

-- the numbers of a cell
abbrev pub cell_of : model.Cell → Cell
cell_of (model.Byte g i) = Byte g.0 i
cell_of (model.Attr g key) = Attr g.0 key.0
cell_of (model.Name g name) = Entry g.0 name.0

-- the kind of object g in these tables
abbrev pub kind_in : Table → ℕ → ℕ
kind_in t g = kind_code (copy_at (record { 0 = g }) t)

-- what these tables have in a cell
abbrev pub code_in : Table → Cell → ℕ
code_in t cell = value_code (value_if (cell_by cell) (copy_at (object_of_cell (cell_by cell)) t))

-- the bricks of a plan that keep a kind of cells
abbrev pub kept_by : Plan → ℕ → Kind → Bool
kept_by p b kind = nat_lt b 5 && keeps p.shape kind b
