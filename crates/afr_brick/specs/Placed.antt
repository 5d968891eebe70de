-- The objects of a brick in the order in which they were made, and the tables that they are by their places there.
use Rattle.std.specs.Prelude.{◌≡◌, ℕ, suc, ◌+◌, ◌^◌, ◌<◌, ◌⊎◌, List, [], ◌∷◌, ◌++◌, Some, length, slice_get, slice_index_or, slice_set}
use Rattle.std.specs.BTreeMap.{is_at}
use Rattle.std.specs.Map.{lookup}
use Rattle.afr_base.specs.declared.ids.Gfid.{Gfid}
use Rattle.afr_base.specs.declared.ids.What.TheVariants.{File}
use Rattle.afr_object.specs.Object.{Object}
use Rattle.afr_object.specs.Tables.{Table, copy_at, gfid_cmp, new_object, opening_gfid, with_copy}
use Rattle.afr_brick.specs.declared.shortcuts.Shortcuts.{Shortcuts}

-- the object at a place; past them an empty one
abbrev pub object_at : List Object → ℕ → Object
object_at objects place = slice_index_or objects place (new_object File)

-- the tables of these objects by their places
abbrev pub table : List Object → List (Gfid × ℕ) → Table
table objects [] = []
table objects (e ∷ places) = (e.0, object_at objects e.1) ∷ table objects places

-- no gfid has this place
abbrev pub Lacks : ℕ → List (Gfid × ℕ) → Type 0
Lacks place [] = Unit {0}
Lacks place (e ∷ places) = (e.1 ≡ place → ⊥) × Lacks place places

-- each gfid has a place of its own, below this number
abbrev pub AreApart : ℕ → List (Gfid × ℕ) → Type 0
AreApart n [] = Unit {0}
AreApart n (e ∷ places) = (e.1 < n) × Lacks e.1 places × AreApart n places

-- what is remembered of the first opening files are their places
abbrev pub AreFound : List ℕ → List (Gfid × ℕ) → Type 0
AreFound opening places = (i place : ℕ) → slice_get opening i ≡ Some place → lookup (is_at (gfid_cmp (opening_gfid (suc i)))) places ≡ Some place

-- what is kept of other objects are their places
abbrev pub AreKept : List (Gfid × ℕ) → List (Gfid × ℕ) → Type 0
AreKept others places = (i : ℕ) (e : Gfid × ℕ) → slice_get others i ≡ Some e → lookup (is_at (gfid_cmp e.0)) places ≡ Some e.1

-- what a brick keeps of its places
pub record IsPlaced (objects : List Object) (places : List (Gfid × ℕ)) (shortcuts : Shortcuts) : Type 0 where
  pub apart : AreApart (length objects) places
  pub found : AreFound shortcuts.opening.items places
  pub kept : AreKept shortcuts.others.items places

-- the place of a gfid: its copy is the object there, and what is written there changes the copy and nothing else
pub record IsPlaceOf (objects : List Object) (places : List (Gfid × ℕ)) (shortcuts : Shortcuts) (g : Gfid) (place : ℕ) : Type 0 where
  pub within : place < length objects
  pub there : copy_at g (table objects places) ≡ Some (object_at objects place)
  pub written : (w : Object) → table (slice_set objects place w) places ≡ with_copy g w (table objects places)
  pub kept : (w : Object) → IsPlaced (slice_set objects place w) places shortcuts

-- the place is remembered only as that of the next opening file
abbrev pub Remembers : Gfid → ℕ → List ℕ → List ℕ → Type 0
Remembers g place old new = (new ≡ old) ⊎ ((g.0 ≡ 2 ^ 64 + 1 + length old) × (new ≡ old ++ place ∷ []))

-- a slot has the place, or what it had before
abbrev pub Keeps : Gfid → ℕ → List (Gfid × ℕ) → List (Gfid × ℕ) → Type 0
Keeps g place old new = (i : ℕ) (e : Gfid × ℕ) → slice_get new i ≡ Some e → (e ≡ (g, place)) ⊎ ((k : ℕ) × (slice_get old k ≡ Some e))

-- one more place is known, at most
pub record Learns (g : Gfid) (place : ℕ) (old new : Shortcuts) : Type 0 where
  pub opening : Remembers g place old.opening.items new.opening.items
  pub others : Keeps g place old.others.items new.others.items

-- the place is that of an opening file, or stands in a slot
abbrev pub Knows : Shortcuts → Gfid → ℕ → Type 0
Knows shortcuts g place = ((i : ℕ) × (g.0 ≡ 2 ^ 64 + 1 + i) × (slice_get shortcuts.opening.items i ≡ Some place)) ⊎ ((i : ℕ) × (slice_get shortcuts.others.items i ≡ Some (g, place)))
