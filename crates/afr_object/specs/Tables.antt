-- The tables of a brick: its objects in the order of their gfids, and what each change makes of them.
use Rattle.std.specs.Prelude.{ℕ, suc, zero, ◌+◌, ◌^◌, ◌&&◌, Bool, true, false, List, [], ◌∷◌, Option, Some, None, length, take, if◌then◌else◌, is_some}
use Rattle.std.specs.Ordering.{nat_cmp}
use Rattle.std.specs.declared.cmp.Ordering.{Ordering}
use Rattle.std.specs.BTreeMap.{is_at, insert_entry}
use Rattle.std.specs.Map.{lookup, set_value, remove_entry}
use Rattle.afr_base.specs.Marks.{no_marks, marks_of, with_marks}
use Rattle.afr_base.specs.declared.ids.Gfid.{Gfid}
use Rattle.afr_base.specs.declared.ids.KeyId.{KeyId}
use Rattle.afr_base.specs.declared.ids.NameId.{NameId}
use Rattle.afr_base.specs.declared.ids.ValueId.{ValueId}
use Rattle.afr_base.specs.declared.ids.What.{What}
use Rattle.afr_base.specs.declared.ids.What.TheVariants.{File, Dir}
use Rattle.afr_base.specs.declared.ids.Kind.{Kind}
use Rattle.afr_base.specs.declared.marks.Marks.{Marks}
use Rattle.afr_object.specs.Bytes.{written}
use Rattle.afr_object.specs.declared.change.Change.{Change}
use Rattle.afr_object.specs.declared.change.Change.TheVariants.{Write, Cut, SetAttr, Make, Remove}
use Rattle.afr_object.specs.declared.entry.Entry.{Entry}
use Rattle.afr_object.specs.declared.entry.View.{View}
use Rattle.afr_object.specs.Object.{Object}

-- objects in the order of their gfids
abbrev pub Table : Type 0
Table = List (Gfid × Object)

-- the orders in which a brick keeps objects, names and attributes
abbrev pub gfid_cmp : Gfid → Gfid → Ordering
gfid_cmp a b = nat_cmp a.0 b.0

-- names in the order of their numbers
abbrev pub name_cmp : NameId → NameId → Ordering
name_cmp a b = nat_cmp a.0 b.0

-- keys in the order of their numbers
abbrev pub key_cmp : KeyId → KeyId → Ordering
key_cmp a b = nat_cmp a.0 b.0

-- an empty object, whose numbers are all 0
abbrev pub new_object : What → Object
new_object what = record { what = what; content = []; attrs = []; names = []; marks = no_marks }

-- what a look at a copy shows
abbrev pub view_of : Object → View
view_of o = record { what = o.what; len = length o.content; marks = o.marks }

-- whether an object has bytes
abbrev pub is_file : What → Bool
is_file File = true
is_file Dir = false

-- whether an object has names
abbrev pub is_dir : What → Bool
is_dir File = false
is_dir Dir = true

-- the brick's copy of an object
abbrev pub copy_at : Gfid → Table → Option Object
copy_at g t = lookup (is_at (gfid_cmp g)) t

-- the tables with a copy replaced
abbrev pub with_copy : Gfid → Object → Table → Table
with_copy g o t = set_value (is_at (gfid_cmp g)) t o

-- the tables with a copy changed, where the brick has it
abbrev pub changed : (Object → Object) → Gfid → Option Object → Table → Table
changed f g None t = t
changed f g (Some o) t = with_copy g (f o) t

-- the bytes of a file change, where the brick keeps bytes
abbrev pub with_bytes : Bool → (List ℕ → List ℕ) → Object → Object
with_bytes keeps f o = if keeps && is_file o.what then record o { content = f o.content } else o

-- an attribute gets a value
abbrev pub with_attr : KeyId → ValueId → Object → Object
with_attr key value o = record o { attrs = insert_entry key_cmp o.attrs key value }

-- the names of a directory change
abbrev pub with_names : (List (NameId × Entry) → List (NameId × Entry)) → Object → Object
with_names f o = if is_dir o.what then record o { names = f o.names } else o

-- the changelog numbers of one kind change
abbrev pub with_numbers : Kind → (Marks → Marks) → Object → Object
with_numbers kind f o = record o { marks = with_marks kind (f (marks_of kind o.marks)) o.marks }

-- the object, empty, where the brick lacks it
abbrev pub made : Gfid → What → Table → Table
made g what t = if is_some (copy_at g t) then t else insert_entry gfid_cmp t g (new_object what)

-- a name for the object in a directory that the brick has, and the object itself
abbrev pub linked : Gfid → NameId → Gfid → What → Option Object → Table → Table
linked dir name g what None t = t
linked dir name g what (Some o) t = made g what (with_copy dir (with_names (λ names. insert_entry name_cmp names name (record { gfid = g; what = what })) o) t)

-- the tables of a brick after a change; an arbiter keeps no bytes
abbrev pub applied : Bool → Change → Table → Table
applied keeps (Write g at bytes) t = changed (with_bytes keeps (written at bytes)) g (copy_at g t) t
applied keeps (Cut g len) t = changed (with_bytes keeps (take len)) g (copy_at g t) t
applied keeps (SetAttr g key value) t = changed (with_attr key value) g (copy_at g t) t
applied keeps (Make dir name g what) t = linked dir name g what (copy_at dir t) t
applied keeps (Remove dir name what) t = changed (with_names (remove_entry (is_at (name_cmp name)))) dir (copy_at dir t) t

-- the object that a change is of: for a name, its directory
abbrev pub object_of : Change → Gfid
object_of (Write g at bytes) = g
object_of (Cut g len) = g
object_of (SetAttr g key value) = g
object_of (Make dir name g what) = dir
object_of (Remove dir name what) = dir

-- the root directory
abbrev pub root : Gfid
root = record { 0 = 1 }

-- the root directory, as a name would give it
abbrev pub root_entry : Entry
root_entry = record { gfid = root; what = Dir }

-- the gfid of the i-th opening file, counted from 1
abbrev pub opening_gfid : ℕ → Gfid
opening_gfid i = record { 0 = 2 ^ 64 + i }

-- what every brick has at the start: the root, and the opening files made in it
abbrev pub opening : ℕ → Table
opening zero = (root, new_object Dir) ∷ []
opening (suc i) = applied true (Make root (record { 0 = i }) (opening_gfid (suc i)) File) (opening i)
