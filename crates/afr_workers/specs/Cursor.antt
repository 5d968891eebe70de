-- A place in the lists that a crawler was given: which items come before it, and which one is next.
use Rattle.std.specs.Prelude.{◌≡◌, ℕ, ◌≤◌, nat_lt, List, [], ◌∷◌, ◌++◌, Option, None, Some, if◌then◌else◌, length, slice_get, take}
use Rattle.afr_base.specs.declared.ids.Gfid.{Gfid}
use Rattle.afr_base.specs.declared.ids.What.{What}
use Rattle.afr_model.specs.Crawl.{list_at}

-- an object that a list names
abbrev pub Item : Type 0
Item = Gfid × What

-- what each round that has ended was given, the latest first
abbrev pub Lists : Type 0
Lists = List (Option (List Item))

-- the items of a round's list, if it was given one
abbrev pub items_in : Option (List Item) → List Item
items_in None = []
items_in (Some list) = list

-- the items of the first so many rounds, in their order
abbrev pub items_below : ℕ → Lists → List Item
items_below rounds [] = []
items_below rounds (list ∷ older) = if nat_lt (length older) rounds then items_below rounds older ++ items_in list else items_below rounds older

-- and those before a place in a round's list
abbrev pub items_before : ℕ → ℕ → Lists → List Item
items_before round at lists = items_below round lists ++ take at (items_in (list_at round lists))

-- the items of all rounds, in their order
abbrev pub items_given : Lists → List Item
items_given [] = []
items_given (list ∷ older) = items_given older ++ items_in list

-- a place in the list of a round that has ended, or at the beginning of the next one
pub record IsPlace (lists : Lists) (round at : ℕ) : Type 0 where
  pub few : round ≤ length lists
  pub within : at ≤ length (items_in (list_at round lists))

-- the item at a place
pub record IsThere (lists : Lists) (round at : ℕ) (item : Item) : Type 0 where
  pub list : List Item
  pub given : list_at round lists ≡ Some list
  pub there : slice_get list at ≡ Some item

-- the item at a place, before which comes what comes before another place
pub record ComesNext (lists : Lists) (from_round from_at round at : ℕ) (item : Item) : Type 0 where
  pub list : List Item
  pub given : list_at round lists ≡ Some list
  pub there : slice_get list at ≡ Some item
  pub same : items_before round at lists ≡ items_before from_round from_at lists

-- nothing comes after a place: what comes before it are the items of all rounds
abbrev pub IsLast : Lists → ℕ → ℕ → Type 0
IsLast lists round at = items_before round at lists ≡ items_given lists
