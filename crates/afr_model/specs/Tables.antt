-- The tables of a brick, as the log so far has made them.
use Rattle.std.specs.Prelude.{ℕ, ◌==◌, ◌&&◌, not, Bool, List, [], ◌∷◌, Option, Some, None, drop, length, take, if◌then◌else◌}
use Rattle.afr_base.specs.Marks.{dirtied, closed_op, taken_back}
use Rattle.afr_base.specs.declared.ids.Gfid.{Gfid}
use Rattle.afr_base.specs.declared.ids.KeyId.{KeyId}
use Rattle.afr_base.specs.declared.ids.NameId.{NameId}
use Rattle.afr_base.specs.declared.ids.ValueId.{ValueId}
use Rattle.afr_object.specs.Tables.{Table, copy_at, changed, with_numbers, applied, opening, name_cmp}
use Rattle.afr_object.specs.Repairs.{Contents, mended, merged}
use Rattle.afr_object.specs.Repairs as contents
use Rattle.afr_object.specs.declared.change.Change.{Change}
use Rattle.afr_object.specs.declared.change.Repair.{Repair}
use Rattle.afr_object.specs.declared.change.Repair.TheVariants.{CutTo, Copy, PutAttrs, PutNames}
use Rattle.afr_object.specs.declared.entry.Entry.{Entry}
use Rattle.afr_object.specs.Object.{Object}
use Rattle.afr_lines.specs.Log.{change_at, from_oldest}
use Rattle.afr_lines.specs.declared.line.Line.{Line}
use Rattle.afr_lines.specs.declared.line.Line.TheVariants.{Ask}
use Rattle.afr_lines.specs.declared.request.Request.{Request}
use Rattle.afr_lines.specs.declared.request.Request.TheVariants.{Apply, Mend, Pre, Post, ReadAttrs, ReadBytes, Settle}
use Rattle.afr_lines.specs.declared.request.Request.TheVariants as request
use Rattle.afr_plan.specs.declared.plan.Plan.{Plan}
use Rattle.std.specs.BTreeMap.{is_at}
use Rattle.std.specs.Map.{lookup}

-- whether a brick keeps file bytes: an arbiter doesn't
abbrev pub keeps_bytes : Plan → ℕ → Bool
keeps_bytes p b = not (p.shape.arbiter && (b == 2))

-- the effect of an attempt's change
abbrev pub effect : Bool → Option Change → Table → Table
effect keeps None t = t
effect keeps (Some change) t = applied keeps change t

-- the bytes of a copy, and those that a brick without a copy has
abbrev pub content_in : Option Object → List ℕ
content_in None = []
content_in (Some o) = o.content

-- the attributes of a copy
abbrev pub attrs_in : Option Object → List (KeyId × ValueId)
attrs_in None = []
attrs_in (Some o) = o.attrs

-- the names of a copy
abbrev pub names_in : Option Object → List (NameId × Entry)
names_in None = []
names_in (Some o) = o.names

-- the tables of each brick before the line at each position
abbrev pub Past : Type 0
Past = ℕ → ℕ → Table

-- the bytes that a read line showed
abbrev pub bytes_shown : Past → ℕ → Option Line → List ℕ
bytes_shown past k (Some (Ask a b (ReadBytes g at len) told took)) = take len (drop at (content_in (copy_at g (past k b.0))))
bytes_shown past k line = []

-- the attributes that a read line showed
abbrev pub attrs_shown : Past → ℕ → Option Line → List (KeyId × ValueId)
attrs_shown past k (Some (Ask a b (ReadAttrs g) told took)) = attrs_in (copy_at g (past k b.0))
attrs_shown past k line = []

-- the names that a read line showed
abbrev pub names_shown : Past → ℕ → Option Line → List (NameId × Entry)
names_shown past k (Some (Ask a b (request.List g) told took)) = names_in (copy_at g (past k b.0))
names_shown past k line = []

-- the names that each of some read lines showed
abbrev pub all_names_shown : Past → List Line → List (Option ℕ) → List (List (NameId × Entry))
all_names_shown past older [] = []
all_names_shown past older (None ∷ reads) = all_names_shown past older reads
all_names_shown past older (Some k ∷ reads) = names_shown past k (from_oldest k older) ∷ all_names_shown past older reads

-- what a repair carries: what the read lines that it names showed
abbrev pub carried : Past → List Line → Repair → Contents
carried past older (CutTo g len) = contents.Nothing
carried past older (Copy g at span read) = contents.Bytes (bytes_shown past read (from_oldest read older))
carried past older (PutAttrs g read) = contents.Attrs (attrs_shown past read (from_oldest read older))
carried past older (PutNames g reads) = contents.Names (merged (all_names_shown past older reads))

-- what a request makes of the tables of a brick that carries it out
abbrev pub asked : Bool → Request → List Line → Past → Table → Table
asked keeps (Apply attempt) older past t = effect keeps (change_at attempt older) t
asked keeps (Mend repair) older past t = mended keeps repair (carried past older repair) t
asked keeps (Pre g kind) older past t = changed (with_numbers kind dirtied) g (copy_at g t) t
asked keeps (Post attempt g kind missed) older past t = changed (with_numbers kind (closed_op missed)) g (copy_at g t) t
asked keeps (Settle g kind less) older past t = changed (with_numbers kind (taken_back less)) g (copy_at g t) t
asked keeps request older past t = t

-- what a line makes of the tables of brick b
abbrev pub step : Plan → Line → ℕ → List Line → Past → Table → Table
step p (Ask actor brick request told took) b older past t = if took then (if brick.0 == b then asked (keeps_bytes p b) request older past t else t) else t
step p line b older past t = t

-- the tables of each brick after a log, and before each of its lines
pub record Tables : Type 0 where
  pub now : ℕ → Table
  pub past : Past

-- at the start each brick has the opening files; then each line has its effect
abbrev pub tables : Plan → List Line → Tables
tables p [] = record { now = λ b. opening p.files; past = λ k b. opening p.files }
tables p (line ∷ older) =
    record {
      now = λ b. step p line b older (tables p older).past ((tables p older).now b);
      past = λ k b. if k == length older then (tables p older).now b else (tables p older).past k b;
    }

-- the tables of brick b after a log
abbrev pub holds : Plan → List Line → ℕ → Table
holds p log b = (tables p log).now b

-- the tables of each brick before the line at each position
abbrev pub held_before : Plan → List Line → Past
held_before p log = (tables p log).past

-- the entry of a name in a directory of these tables
abbrev pub entry_in : NameId → Option Object → Option Entry
entry_in name None = None
entry_in name (Some o) = lookup (is_at (name_cmp name)) o.names

-- the entry of a name in a directory of a table
abbrev pub entry_at : Gfid → NameId → Table → Option Entry
entry_at g name t = entry_in name (copy_at g t)
