-- Objects that are taken out of the tables again.
use Rattle.std.specs.Prelude.{List, [], ◌∷◌}
use Rattle.std.specs.BTreeMap.{is_at}
use Rattle.std.specs.Map.{remove_entry}
use Rattle.afr_base.specs.declared.ids.Gfid.{Gfid}
use Rattle.afr_object.specs.Tables.{Table, gfid_cmp}

-- the tables without these objects, the first taken out first
abbrev pub without : List Gfid → Table → Table
without [] t = t
without (g ∷ more) t = without more (remove_entry (is_at (gfid_cmp g)) t)
