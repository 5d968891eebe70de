-- The texts of changes.
use Rattle.std.specs.Prelude.{ℕ, List, [], ◌++◌, codes, decimal, length, slice_index_or}
use Rattle.afr_base.specs.declared.ids.What.{What}
use Rattle.afr_base.specs.declared.ids.What.TheVariants.{File, Dir}
use Rattle.afr_object.specs.declared.change.Change.{Change}
use Rattle.afr_object.specs.declared.change.Change.TheVariants as change
use Rattle.afr_plan.specs.declared.plan.Plan.{Plan}
use Rattle.afr_report_trace.specs.Objects.{object_text, name_text, key_text}

-- the word for making an object of a kind
abbrev pub make_word : What → List ℕ
make_word File = codes "create "
make_word Dir = codes "mkdir "

-- the word for removing one
abbrev pub remove_word : What → List ℕ
remove_word File = codes "unlink "
remove_word Dir = codes "rmdir "

-- a change: of a write the offset and the length, of an entry its name, and of a new one its object
abbrev pub change_text : Plan → Change → List ℕ
change_text p (change.Write g at bytes) = codes "write " ++ object_text p g ++ codes " " ++ decimal at ++ codes " " ++ decimal (length bytes)
change_text p (change.Cut g len) = codes "cut " ++ object_text p g ++ codes " " ++ decimal len
change_text p (change.SetAttr g key value) = codes "setattr " ++ key_text p g key ++ codes " " ++ slice_index_or p.words.values value.0 []
change_text p (change.Make dir name g what) = make_word what ++ name_text p dir name ++ codes " " ++ object_text p g
change_text p (change.Remove dir name what) = remove_word what ++ name_text p dir name
