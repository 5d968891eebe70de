-- The numbers of a name and its entry.
use Rattle.afr_base.specs.declared.ids.NameId.{NameId}
use Rattle.afr_object.specs.declared.entry.Entry.{Entry}
use Rattle.afr_model_moves.specs.Ranges.{EntryInRange, IsWord}

-- a name with its entry
abbrev pub IsNamed : NameId × Entry → Type 0
IsNamed pair = IsWord pair.0.0 × EntryInRange pair.1
