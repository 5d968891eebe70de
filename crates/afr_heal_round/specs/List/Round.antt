-- How far a round is in the heals of its list.
use Rattle.std.specs.Prelude.{ℕ, ◌+◌, Bool, List, [], Option, Some, None, is_some, slice_get, if◌then◌else◌}
use Rattle.afr_base.specs.declared.ids.BrickId.{BrickId}
use Rattle.afr_base.specs.declared.ids.Gfid.{Gfid}
use Rattle.afr_base.specs.declared.ids.Kind.{Kind}
use Rattle.afr_base.specs.declared.ids.Kind.TheVariants.{Attrs}
use Rattle.afr_base.specs.declared.ids.What.{What}
use Rattle.afr_model.specs.Rounds.{heals_of, kind_within}

-- the brick of a round, the list that its index had, if it was given, and how many heals of the list were given
pub record RoundProgress : Type 0 where
  pub brick : BrickId
  pub list : Option (List (Gfid × What))
  pub given : ℕ

-- a round that has no list yet
abbrev pub begun : BrickId → RoundProgress
begun b = record { brick = b; list = None; given = 0 }

-- a round that has this list, and gave none of its heals
abbrev pub with_list : List (Gfid × What) → RoundProgress → RoundProgress
with_list list p = record p { list = Some list; given = 0 }

-- the heals of the list, if it was given
abbrev pub heals_in : Option (List (Gfid × What)) → List (Gfid × Kind)
heals_in None = []
heals_in (Some list) = heals_of list

-- the heal that is given next: none where all were given, or no list was
abbrev pub next_due : RoundProgress → Option (Gfid × Kind)
next_due p = slice_get (heals_in p.list) p.given

-- one more heal was given, where one was left
abbrev pub without_next : RoundProgress → RoundProgress
without_next p = if is_some (next_due p) then record p { given = p.given + 1 } else p

-- the object at a place of the list
abbrev pub listed_at : ℕ → Option (List (Gfid × What)) → Option (Gfid × What)
listed_at at None = None
listed_at at (Some list) = slice_get list at

-- the kind of an object that is healed after its attributes, or the attributes
abbrev pub kind_at : Bool → What → Kind
kind_at within what = if within then kind_within what else Attrs

-- two heals of each object before this one, and its attributes where they were given
abbrev pub given : ℕ → Bool → ℕ
given at within = at + at + (if within then 1 else 0)
