-- The code's cells and values, as the definitions have them.
use Rattle.afr_model.specs.Cells.{Cell, Byte, Attr, Name, Value, IsByte, IsAttr, IsEntry}
use Rattle.afr_trace_safe.specs.declared.cell.Cell as code
use Rattle.afr_trace_safe.specs.declared.cell.Cell.TheVariants as code_cell
use Rattle.afr_trace_safe.specs.declared.cell.Value as code_values
use Rattle.afr_trace_safe.specs.declared.cell.Value.TheVariants as code_value

-- the cell that the code means
abbrev pub cell_of : code.Cell → Cell
cell_of (code_cell.Byte g i) = Byte g i
cell_of (code_cell.Attr g key) = Attr g key
cell_of (code_cell.Name g name) = Name g name

-- the value that the code means
abbrev pub value_seen : code_values.Value → Value
value_seen (code_value.Byte byte) = IsByte byte
value_seen (code_value.Attr value) = IsAttr value
value_seen (code_value.Entry entry) = IsEntry entry
