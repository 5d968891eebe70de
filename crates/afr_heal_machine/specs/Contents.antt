-- What the reads of a heal gave.
use Rattle.std.specs.Prelude.{ℕ, ◌≡◌, List, [], ◌∷◌, Option, None, Some, slice_set}
use Rattle.afr_base.specs.declared.ids.Kind.{Kind}
use Rattle.afr_base.specs.declared.ids.Kind.TheVariants as kind_of
use Rattle.afr_base.specs.declared.ids.NameId.{NameId}
use Rattle.afr_object.specs.State.{contents_of}
use Rattle.afr_heal_merge.specs.Merging.{present}
use Rattle.afr_lines.specs.declared.answer.Answer.{Answer}
use Rattle.afr_lines.specs.declared.answer.Answer.TheVariants as answer
use Rattle.afr_object.specs.Repairs.{Contents as Carried, merged}
use Rattle.afr_object.specs.Repairs as carried
use Rattle.afr_object.specs.declared.change.Load.{Load}
use Rattle.afr_object.specs.declared.entry.Entry.{Entry}
use Rattle.afr_heal_machine.specs.declared.contents.ReadSoFar.{ReadSoFar}
use Rattle.afr_heal_machine.specs.declared.contents.ReadSoFar.TheVariants.{Nothing, Bytes, Attrs, Names}
use Rattle.afr_heal_machine.specs.declared.contents.NamesRead.{NamesRead}

-- before any read
abbrev pub none_in : Kind → ReadSoFar
none_in kind_of.Names = Names (record { lists = None ∷ None ∷ None ∷ None ∷ None ∷ []; merged = None })
none_in kind = Nothing

-- one more list of names, whose merge isn't made yet
abbrev pub with_list : ℕ → List (NameId × Entry) → ReadSoFar → ReadSoFar
with_list b names (Names read) = Names (record { lists = slice_set read.lists b (Some names); merged = None })
with_list b names was = was

-- after brick b's answer to a read
abbrev pub kept : ℕ → Answer → ReadSoFar → ReadSoFar
kept b (answer.Bytes bytes) was = Bytes bytes
kept b (answer.Attrs attrs) was = Attrs attrs
kept b (answer.Names names) was = with_list b names was
kept b other was = was

-- the merge, which is made if it isn't there
abbrev pub merge_in : NamesRead → Option (List (NameId × Entry)) → List (NameId × Entry)
merge_in read (Some names) = names
merge_in read None = merged (present read.lists)

-- with the merge
abbrev pub readied : ReadSoFar → ReadSoFar
readied (Names read) = Names (record read { merged = Some (merge_in read read.merged) })
readied contents = contents

-- the names that go with a repair, once their merge is made
abbrev pub names_in : Option (List (NameId × Entry)) → Carried
names_in (Some names) = carried.Names names
names_in None = carried.Nothing

-- what goes with a repair
abbrev pub carried_in : ReadSoFar → Carried
carried_in Nothing = carried.Nothing
carried_in (Bytes bytes) = carried.Bytes bytes
carried_in (Attrs attrs) = carried.Attrs attrs
carried_in (Names read) = names_in read.merged

-- the load is that
abbrev pub load_in : ReadSoFar → Load → Type 0
load_in contents load = contents_of load ≡ carried_in contents

-- a merge that is made is that of the lists
pub record IsMerged (read : NamesRead) : Type 0 where
  pub merge : (names : List (NameId × Entry)) → read.merged ≡ Some names → names ≡ merged (present read.lists)

abbrev pub AreMerged : ReadSoFar → Type 0
AreMerged (Names read) = IsMerged read
AreMerged contents = Unit {0}
