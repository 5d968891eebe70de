-- What a change counts in, and what it locks.
use Rattle.std.specs.Prelude.{ℕ, ◌+◌, ◌-◌, ◌^◌, min, List, length, Some}
use Rattle.afr_base.specs.declared.ids.Gfid.{Gfid}
use Rattle.afr_base.specs.declared.ids.Kind.{Kind}
use Rattle.afr_base.specs.declared.ids.Kind.TheVariants.{Bytes, Attrs, Names}
use Rattle.afr_object.specs.declared.change.Change.{Change}
use Rattle.afr_object.specs.declared.change.Change.TheVariants.{Write, Cut, SetAttr, Make, Remove}
use Rattle.afr_lines.specs.declared.request.Area.{Area}
use Rattle.afr_lines.specs.declared.request.Area.TheVariants.{Range, Name}

-- where a write ends, as far as 64 bits count
abbrev pub end_of : ℕ → List ℕ → ℕ
end_of at bytes = min (at + length bytes) (2 ^ 64 - 1)

-- what the transaction of a change locks: a range of bytes, all attributes, or a name
abbrev pub area_for : Change → Area
area_for (Write g at bytes) = Range g at (end_of at bytes)
area_for (Cut g len) = Range g len (2 ^ 63)
area_for (SetAttr g key value) = Range g (2 ^ 63) (2 ^ 63 + 1)
area_for (Make dir name g what) = Name dir (Some name)
area_for (Remove dir name what) = Name dir (Some name)

-- the numbers that count the change
abbrev pub kind_for : Change → Kind
kind_for (Write g at bytes) = Bytes
kind_for (Cut g len) = Bytes
kind_for (SetAttr g key value) = Attrs
kind_for (Make dir name g what) = Names
kind_for (Remove dir name what) = Names

-- the object of an area
abbrev pub object_of_area : Area → Gfid
object_of_area (Range g from to) = g
object_of_area (Name g name) = g
