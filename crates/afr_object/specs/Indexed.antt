-- The heal index of a brick: which of its objects may have something to heal.
use Rattle.std.specs.Prelude.{List, [], ◌∷◌, if◌then◌else◌}
use Rattle.afr_base.specs.Marks.{is_no_marks}
use Rattle.afr_base.specs.declared.ids.Gfid.{Gfid}
use Rattle.afr_base.specs.declared.ids.What.{What}
use Rattle.afr_object.specs.Tables.{Table}

-- the objects with a number above 0
abbrev pub index_of : Table → List (Gfid × What)
index_of [] = []
index_of (entry ∷ t) = if is_no_marks entry.1.marks then index_of t else (entry.0, entry.1.what) ∷ index_of t
