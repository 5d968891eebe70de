-- The objects of a heal index, in the order of their gfids.
use Rattle.std.specs.Prelude.{◌≡◌, ℕ, zero, suc, ◌<◌, ◌≤◌, List, [], ◌∷◌, Option, Some, None, if◌then◌else◌, ◌==◌}
use Rattle.std.specs.BTreeMap.{insert_entry, is_at}
use Rattle.std.specs.List.Sorted.{IsStrictlySortedBy}
use Rattle.std.specs.Map.{keys_of, lookup}
use Rattle.afr_base.specs.declared.ids.Gfid.{Gfid}
use Rattle.afr_base.specs.declared.ids.What.{What}
use Rattle.afr_object.specs.Tables.{gfid_cmp}

-- gfids, each with what its object is
abbrev pub Listed : Type 0
Listed = List (Gfid × What)

-- each gfid is below those after it
abbrev pub IsRising : Listed → Type 0
IsRising listed = IsStrictlySortedBy gfid_cmp (keys_of listed)

-- what the object is, where the index has it
abbrev pub kind_at : Gfid → Listed → Option What
kind_at g listed = lookup (is_at (gfid_cmp g)) listed

-- one object is listed as this, and every other as before
abbrev pub Lists : Gfid → What → Listed → Listed → Type 0
Lists g what old new = (q : Gfid) → kind_at q new ≡ (if g.0 == q.0 then Some what else kind_at q old)

-- one object is not listed, and every other is as before
abbrev pub Drops : Gfid → Listed → Listed → Type 0
Drops g old new = (q : Gfid) → kind_at q new ≡ (if g.0 == q.0 then None else kind_at q old)

-- a list with the objects of a row put in, one after the other
abbrev pub with_all : Listed → Listed → Listed
with_all [] listed = listed
with_all (e ∷ row) listed = with_all row (insert_entry gfid_cmp listed e.0 e.1)

-- so many objects at the front are below this number, and the next isn't
abbrev pub IsSpot : ℕ → Listed → ℕ → Type 0
IsSpot n [] zero = Unit {0}
IsSpot n [] (suc at) = ⊥
IsSpot n (e ∷ t) zero = n ≤ e.0.0
IsSpot n (e ∷ t) (suc at) = (e.0.0 < n) × IsSpot n t at
