-- The texts of objects and names, of ranges, and of what a lock covers.
use Rattle.std.specs.Prelude.{ℕ, ◌+◌, ◌-◌, ◌^◌, ◌==◌, nat_lt, nat_le, Bool, ◌&&◌, List, [], ◌++◌, Some, None, codes, decimal, if◌then◌else◌, slice_index_or}
use Rattle.afr_base.specs.declared.ids.Gfid.{Gfid}
use Rattle.afr_base.specs.declared.ids.KeyId.{KeyId}
use Rattle.afr_base.specs.declared.ids.NameId.{NameId}
use Rattle.afr_lines.specs.declared.request.Area.{Area}
use Rattle.afr_lines.specs.declared.request.Area.TheVariants.{Range, Name}
use Rattle.afr_plan.specs.declared.plan.Plan.{Plan}

-- whether a gfid is that of a file that the volume opens with
abbrev pub is_opening : Plan → ℕ → Bool
is_opening p g = nat_lt (2 ^ 64) g && nat_le g (2 ^ 64 + p.files)

-- an object: an opening file by its number, any other by its gfid
abbrev pub object_text : Plan → Gfid → List ℕ
object_text p g = if is_opening p g.0 then codes "f" ++ decimal (g.0 - 2 ^ 64) else codes "g" ++ decimal g.0

-- a name in a directory
abbrev pub name_text : Plan → Gfid → NameId → List ℕ
name_text p dir name = object_text p dir ++ codes "/" ++ slice_index_or p.words.names name.0 []

-- an attribute of an object, by its key
abbrev pub key_text : Plan → Gfid → KeyId → List ℕ
key_text p g key = object_text p g ++ codes " " ++ slice_index_or p.words.keys key.0 []

-- the bytes of a file from a place up to another
abbrev pub range_text : Plan → Gfid → ℕ → ℕ → List ℕ
range_text p g from to = object_text p g ++ codes "[" ++ decimal from ++ codes "," ++ decimal to ++ codes ")"

-- the same of a lock, which may have no end, or lie where the attributes are
abbrev pub lock_range_text : Plan → Gfid → ℕ → ℕ → List ℕ
lock_range_text p g from to =
    if from == 2 ^ 63 then object_text p g ++ codes "[meta]"
    else (if to == 2 ^ 63 then object_text p g ++ codes "[" ++ decimal from ++ codes ",end)" else range_text p g from to)

-- what a lock covers: a range, a name, or all names of a directory
abbrev pub area_text : Plan → Area → List ℕ
area_text p (Range g from to) = lock_range_text p g from to
area_text p (Name g None) = object_text p g ++ codes "/*"
area_text p (Name g (Some name)) = name_text p g name
