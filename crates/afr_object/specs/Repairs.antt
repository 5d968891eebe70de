-- What a heal's repair makes of the tables of a brick.
use Rattle.std.specs.Prelude.{ℕ, ◌==◌, ◌&&◌, ◌||◌, nat_lt, Bool, List, [], ◌∷◌, Option, Some, None, take, if◌then◌else◌}
use Rattle.std.specs.BTreeMap.{is_at, insert_entry}
use Rattle.std.specs.Map.{lookup}
use Rattle.afr_base.specs.declared.ids.Gfid.{Gfid}
use Rattle.afr_base.specs.declared.ids.KeyId.{KeyId}
use Rattle.afr_base.specs.declared.ids.NameId.{NameId}
use Rattle.afr_base.specs.declared.ids.ValueId.{ValueId}
use Rattle.afr_object.specs.Bytes.{copied_in}
use Rattle.afr_object.specs.Tables.{Table, changed, copy_at, is_dir, made, name_cmp, with_bytes, with_copy, with_names}
use Rattle.afr_object.specs.declared.change.Repair.{Repair}
use Rattle.afr_object.specs.declared.change.Repair.TheVariants.{CutTo, Copy, PutAttrs, PutNames}
use Rattle.afr_object.specs.declared.entry.Entry.{Entry}
use Rattle.afr_object.specs.Object.{Object}

-- of two entries the one that stands has the greater gfid; of one gfid that of a directory
abbrev pub outranks : Entry → Entry → Bool
outranks e f = nat_lt f.gfid.0 e.gfid.0 || ((e.gfid.0 == f.gfid.0) && is_dir e.what)

-- an entry, or the one that stands in its place
abbrev pub higher : Entry → Option Entry → Entry
higher e None = e
higher e (Some f) = if outranks e f then e else f

-- the names of a list put into others
abbrev pub merged_into : List (NameId × Entry) → List (NameId × Entry) → List (NameId × Entry)
merged_into names [] = names
merged_into names (x ∷ more) = insert_entry name_cmp (merged_into names more) x.0 (higher x.1 (lookup (is_at (name_cmp x.0)) (merged_into names more)))

-- each name that one of the lists has
abbrev pub merged : List (List (NameId × Entry)) → List (NameId × Entry)
merged [] = []
merged (names ∷ more) = merged_into (merged more) names

-- the objects of these entries, empty, where the brick lacks them
abbrev pub all_made : List (NameId × Entry) → Table → Table
all_made [] t = t
all_made (x ∷ more) t = made x.1.gfid x.1.what (all_made more t)

-- the names of a directory that the brick has are replaced, and the objects that they name made
abbrev pub renamed : List (NameId × Entry) → Gfid → Option Object → Table → Table
renamed names g None t = t
renamed names g (Some o) t = all_made names (with_copy g (with_names (λ old. names) o) t)

-- the attributes of an object are replaced
abbrev pub with_attrs : List (KeyId × ValueId) → Object → Object
with_attrs attrs o = record o { attrs = attrs }

-- what a repair carries
pub data Contents : Type 0 where
  Nothing : Contents
  Bytes : List ℕ → Contents
  Attrs : List (KeyId × ValueId) → Contents
  Names : List (NameId × Entry) → Contents

-- the tables of a brick after a repair; an arbiter keeps no bytes
abbrev pub mended : Bool → Repair → Contents → Table → Table
mended keeps (CutTo g len) contents t = changed (with_bytes keeps (take len)) g (copy_at g t) t
mended keeps (Copy g at span read) (Bytes bytes) t = changed (with_bytes keeps (copied_in at span bytes)) g (copy_at g t) t
mended keeps (PutAttrs g read) (Attrs attrs) t = changed (with_attrs attrs) g (copy_at g t) t
mended keeps (PutNames g reads) (Names names) t = renamed names g (copy_at g t) t
mended keeps repair contents t = t

-- the object that a repair is of
abbrev pub repaired : Repair → Gfid
repaired (CutTo g len) = g
repaired (Copy g at span read) = g
repaired (PutAttrs g read) = g
repaired (PutNames g reads) = g
