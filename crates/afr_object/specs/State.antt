-- A brick as its callers see it, and what each call asks of it.
use Rattle.std.specs.Prelude.{ℕ, ◌+◌, ◌-◌, ◌^◌, ◌<◌, ◌≤◌, Bool, true, false, length, slice_index, IfSome}
use Rattle.std.specs.List.Sorted.{IsStrictlySortedBy}
use Rattle.std.specs.Map.{keys_of}
use Rattle.afr_base.specs.Marks.{marks_of}
use Rattle.afr_base.specs.declared.ids.Gfid.{Gfid}
use Rattle.afr_base.specs.declared.ids.Kind.{Kind}
use Rattle.afr_base.specs.declared.marks.Marks.{Marks}
use Rattle.afr_object.specs.Tables.{Table, copy_at, key_cmp, name_cmp}
use Rattle.afr_object.specs.Repairs.{Contents}
use Rattle.afr_object.specs.Repairs as contents
use Rattle.afr_object.specs.declared.change.Change.{Change}
use Rattle.afr_object.specs.declared.change.Change.TheVariants.{Write, Cut, Remove}
use Rattle.afr_object.specs.declared.change.Load.{Load}
use Rattle.afr_object.specs.declared.change.Load.TheVariants as load
use Rattle.afr_object.specs.declared.change.Repair.{Repair}
use Rattle.afr_object.specs.declared.change.Repair.TheVariants.{CutTo, Copy}

-- a brick: whether it keeps file bytes, which an arbiter does not, and its tables
pub record Copies : Type 0 where
  pub keeps : Bool
  pub objects : Table

-- a write to a copy that is there ends within the longest file
abbrev pub CanApply : Change → Table → Type 0
CanApply (Write g at bytes) t = IfSome (copy_at g t) (λ _. at + length bytes ≤ 1048576)
CanApply change t = Unit {0}

-- whether a change may want memory: a cut and a removal never do
abbrev pub takes_memory : Change → Bool
takes_memory (Cut g len) = false
takes_memory (Remove dir name what) = false
takes_memory change = true

-- one more operation can be counted as open on the copy
abbrev pub CanPre : Kind → Gfid → Table → Type 0
CanPre kind g t = IfSome (copy_at g t) (λ o. (marks_of kind o.marks).dirty < 2 ^ 32 - 1)

-- an operation is open on the copy, and each brick can be accused once more
abbrev pub CanPost : Kind → Gfid → Table → Type 0
CanPost kind g t = IfSome (copy_at g t) (λ o. (0 < (marks_of kind o.marks).dirty) × ((b : ℕ) → b < 5 → slice_index (marks_of kind o.marks).pending b < 2 ^ 32 - 1))

-- each number of the copy is at least what is taken from it
abbrev pub CanSettle : Kind → Marks → Gfid → Table → Type 0
CanSettle kind less g t = IfSome (copy_at g t) (λ o. (less.dirty ≤ (marks_of kind o.marks).dirty) × ((b : ℕ) → b < 5 → slice_index less.pending b ≤ slice_index (marks_of kind o.marks).pending b))

-- the contents that a load brings a repair
abbrev pub contents_of : Load → Contents
contents_of (load.Bytes bytes) = contents.Bytes bytes.now
contents_of (load.Attrs attrs) = contents.Attrs attrs.now
contents_of (load.Names names) = contents.Names names.now
contents_of load = contents.Nothing

-- a copied piece of a copy that is there ends within the longest file, and its bytes fit in it
abbrev pub CanRepair : Repair → Contents → Table → Type 0
CanRepair (Copy g at span read) (contents.Bytes bytes) t = IfSome (copy_at g t) (λ _. (at + span ≤ 1048576) × (length bytes ≤ span))
CanRepair repair contents t = Unit {0}

-- attributes and names stand in the order of their numbers, each once
abbrev pub IsInOrder : Contents → Type 0
IsInOrder (contents.Attrs attrs) = IsStrictlySortedBy key_cmp (keys_of attrs)
IsInOrder (contents.Names names) = IsStrictlySortedBy name_cmp (keys_of names)
IsInOrder contents = Unit {0}

-- whether a repair may want memory: a cut never does
abbrev pub repair_takes_memory : Repair → Bool
repair_takes_memory (CutTo g len) = false
repair_takes_memory repair = true
