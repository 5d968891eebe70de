-- The cells of an object that are looked at one by one.
use Rattle.std.specs.Prelude.{◌≡◌, ℕ, ◌<◌, List, Option, Some, None, slice_get}
use Rattle.afr_base.specs.declared.ids.Gfid.{Gfid}
use Rattle.afr_base.specs.declared.ids.KeyId.{KeyId}
use Rattle.afr_base.specs.declared.ids.Kind.{Kind}
use Rattle.afr_base.specs.declared.ids.Kind.TheVariants.{Attrs, Names}
use Rattle.afr_base.specs.declared.ids.NameId.{NameId}
use Rattle.afr_base.specs.declared.ids.ValueId.{ValueId}
use Rattle.afr_object.specs.declared.change.Change.{Change}
use Rattle.afr_object.specs.declared.change.Change.TheVariants.{SetAttr, Make, Remove}
use Rattle.afr_object.specs.declared.entry.Entry.{Entry}
use Rattle.afr_lines.specs.Log.{change_at}
use Rattle.afr_lines.specs.declared.line.Line.{Line}
use Rattle.afr_plan.specs.declared.plan.Plan.{Plan}
use Rattle.afr_model.specs.Attempts.{IsCurrent}
use Rattle.afr_model.specs.Cells.{Attr, Byte, Cell, Name}
use Rattle.afr_trace_safe.specs.declared.attempts.Attempt.{Attempt}

-- the attribute or name that a change touches, where it is of this kind
abbrev pub touched_in : Kind → Option Change → Option Cell
touched_in Attrs (Some (SetAttr g key value)) = Some (Attr g key)
touched_in Names (Some (Make dir name g what)) = Some (Name dir name)
touched_in Names (Some (Remove dir name what)) = Some (Name dir name)
touched_in kind change = None

-- the bytes below an end are current
abbrev pub AreBytesCurrent : Plan → List Line → ℕ → Gfid → ℕ → Type 0
AreBytesCurrent p log b g end = (i : ℕ) → i < end → IsCurrent p log b (Byte g i)

-- the attributes of some keys are
abbrev pub AreKeysCurrent : Plan → List Line → ℕ → Gfid → List (KeyId × ValueId) → Type 0
AreKeysCurrent p log b g attrs = (j : ℕ) (x : KeyId × ValueId) → slice_get attrs j ≡ Some x → IsCurrent p log b (Attr g x.0)

-- some names are
abbrev pub AreNamesCurrent : Plan → List Line → ℕ → Gfid → List (NameId × Entry) → Type 0
AreNamesCurrent p log b g names = (j : ℕ) (x : NameId × Entry) → slice_get names j ≡ Some x → IsCurrent p log b (Name g x.0)

-- the cell that an attempt touches is, where it touches one of this kind
abbrev pub IsTouchedCurrent : Plan → List Line → ℕ → Kind → Attempt → Type 0
IsTouchedCurrent p log b kind x = (cell : Cell) → touched_in kind (change_at x.position log) ≡ Some cell → IsCurrent p log b cell

-- so it is for each of some attempts
abbrev pub AreTouchedCurrent : Plan → List Line → ℕ → Kind → List Attempt → Type 0
AreTouchedCurrent p log b kind attempts = (j : ℕ) (x : Attempt) → slice_get attempts j ≡ Some x → IsTouchedCurrent p log b kind x
