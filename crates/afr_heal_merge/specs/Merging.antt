-- The lists that a heal merges, and what their merge is.
use Rattle.std.specs.Prelude.{◌≡◌, ℕ, ◌≤◌, List, [], ◌∷◌, Option, Some, None, Contains}
use Rattle.std.specs.BTreeMap.{is_at}
use Rattle.std.specs.List.Sorted.{IsStrictlySortedBy}
use Rattle.std.specs.Map.{keys_of, lookup}
use Rattle.afr_base.specs.declared.ids.NameId.{NameId}
use Rattle.afr_object.specs.Repairs.{merged}
use Rattle.afr_object.specs.Tables.{name_cmp}
use Rattle.afr_object.specs.declared.entry.Entry.{Entry}

-- the lists that there are, in their order
abbrev pub present : {A : Type 0} → List (Option A) → List A
present [] = []
present (None ∷ more) = present more
present (Some names ∷ more) = names ∷ present more

-- each list that there is, is this one
abbrev pub AreAll : {A : Type 0} → A → List (Option A) → Type 0
AreAll x [] = Unit {0}
AreAll x (None ∷ more) = AreAll x more
AreAll x (Some y ∷ more) = (x ≡ y) × AreAll x more

-- one of the lists has this name with this entry
pub record StandsInOne (lists : List (List (NameId × Entry))) (x : NameId × Entry) : Type 0 where
  pub names : List (NameId × Entry)
  pub listed : Contains lists names
  pub named : Contains names x

-- a name leads to an entry whose gfid is at least this
pub record LeadsTo (names : List (NameId × Entry)) (name : NameId) (least : ℕ) : Type 0 where
  pub entry : Entry
  pub found : lookup (is_at (name_cmp name)) names ≡ Some entry
  pub greatest : least ≤ entry.gfid.0

-- a merged list is in the order of its names, each once
abbrev pub MergeIsInOrder : Type 0
MergeIsInOrder = (lists : List (List (NameId × Entry))) → IsStrictlySortedBy name_cmp (keys_of (merged lists))

-- each name of a list is in the merged list, where no lower gfid stands for it
abbrev pub GreatestStands : Type 0
GreatestStands = (lists : List (List (NameId × Entry))) (x : NameId × Entry) → StandsInOne lists x → LeadsTo (merged lists) x.0 x.1.gfid.0

-- a merged list has no entry that none of the lists has
abbrev pub NothingIsAdded : Type 0
NothingIsAdded = (lists : List (List (NameId × Entry))) (x : NameId × Entry) → Contains (merged lists) x → StandsInOne lists x
