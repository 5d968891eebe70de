-- The index that a brick keeps beside its tables.
use Rattle.std.specs.Prelude.{◌≡◌, Option, Some, None, if◌then◌else◌, IfSome, option_map}
use Rattle.std.specs.BTreeMap.{is_at, insert_entry}
use Rattle.std.specs.Map.{remove_entry}
use Rattle.afr_base.specs.Marks.{is_no_marks}
use Rattle.afr_base.specs.declared.ids.Gfid.{Gfid}
use Rattle.afr_index.specs.Listed.{Listed}
use Rattle.afr_object.specs.Indexed.{index_of}
use Rattle.afr_object.specs.Tables.{Table, gfid_cmp}
use Rattle.afr_object.specs.Object.{Object}

-- an index that is kept lists the objects with a number above 0, and no other
abbrev pub IsIndexOf : Table → Option Listed → Type 0
IsIndexOf t index = IfSome index (λ listed. listed ≡ index_of t)

-- the index with a copy listed where it has a number above 0, and without it where it has none
abbrev pub relisted : Gfid → Object → Listed → Listed
relisted g o listed = if is_no_marks o.marks then remove_entry (is_at (gfid_cmp g)) listed else insert_entry gfid_cmp listed g o.what

-- an index that is still kept follows a copy whose numbers have changed
abbrev pub Follows : Gfid → Option Object → Option Listed → Option Listed → Type 0
Follows g None old new = new ≡ old
Follows g (Some o) old new = IfSome new (λ listed. option_map (relisted g o) old ≡ Some listed)
