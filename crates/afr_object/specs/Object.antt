-- One copy of an object.
use Rattle.std.specs.Prelude.{ℕ, List}
use Rattle.afr_base.specs.declared.ids.KeyId.{KeyId}
use Rattle.afr_base.specs.declared.ids.NameId.{NameId}
use Rattle.afr_base.specs.declared.ids.ValueId.{ValueId}
use Rattle.afr_base.specs.declared.ids.What.{What}
use Rattle.afr_base.specs.declared.marks.AllMarks.{AllMarks}
use Rattle.afr_object.specs.declared.entry.Entry.{Entry}

-- a file or directory on a brick: its bytes, its attributes, its names and its changelog numbers
pub record Object : Type 0 where
  pub what : What
  pub content : List ℕ
  pub attrs : List (KeyId × ValueId)
  pub names : List (NameId × Entry)
  pub marks : AllMarks
