-- What read lines showed, and what a repair carries of it.
use Rattle.std.specs.Prelude.{◌≡◌, ℕ, ◌<◌, ◌^◌, List, [], ◌∷◌, Option, Some, None, drop, length, slice_get, take}
use Rattle.afr_base.specs.declared.ids.BrickId.{BrickId}
use Rattle.afr_base.specs.declared.ids.KeyId.{KeyId}
use Rattle.afr_base.specs.declared.ids.NameId.{NameId}
use Rattle.afr_base.specs.declared.ids.ValueId.{ValueId}
use Rattle.afr_lines.specs.declared.line.Line.{Line}
use Rattle.afr_lines.specs.declared.line.Line.TheVariants.{Ask}
use Rattle.afr_lines.specs.declared.request.Request.{Request}
use Rattle.afr_lines.specs.declared.request.Request.TheVariants.{List as ListNames, Mend, ReadAttrs, ReadBytes}
use Rattle.afr_model.specs.Tables.{Past, attrs_in, carried, content_in, names_in}
use Rattle.afr_object.specs.Repairs.{Contents, Nothing, Bytes, Attrs, Names, merged}
use Rattle.afr_object.specs.State.{IsInOrder}
use Rattle.afr_object.specs.Tables.{Table, copy_at}
use Rattle.afr_object.specs.declared.change.Repair.{Repair}
use Rattle.afr_object.specs.declared.change.Repair.TheVariants.{CutTo, Copy, PutAttrs, PutNames}
use Rattle.afr_object.specs.declared.entry.Entry.{Entry}
use Rattle.afr_plan.specs.declared.plan.Plan.{Plan}
use Rattle.afr_trace_tables.specs.Plain.{plain_tables}
use Rattle.afr_trace_tally.specs.declared.contents.Kept.{Kept}
use Rattle.afr_trace_tally.specs.declared.contents.Kept.TheVariants as code

-- the contents that the code means
abbrev pub contents_seen : Kept → Contents
contents_seen code.Nothing = Nothing
contents_seen (code.Bytes bytes) = Bytes bytes
contents_seen (code.Attrs attrs) = Attrs attrs
contents_seen (code.Names names) = Names names

-- what a request shows of these tables
abbrev pub shown_of : Request → Table → Contents
shown_of (ReadBytes g at len) t = Bytes (take len (drop at (content_in (copy_at g t))))
shown_of (ReadAttrs g) t = Attrs (attrs_in (copy_at g t))
shown_of (ListNames g) t = Names (names_in (copy_at g t))
shown_of request t = Nothing

-- what a line shows of the tables of the bricks
abbrev pub shown_at : (ℕ → Table) → Line → Contents
shown_at now (Ask a y request told took) = shown_of request (now y.0)
shown_at now line = Nothing

-- what each line of a log showed, the newest first
abbrev pub all_shown : Plan → List Line → List Contents
all_shown p [] = []
all_shown p (line ∷ older) = shown_at (plain_tables p older).now line ∷ all_shown p older

-- the bytes among contents
abbrev pub bytes_among : Contents → List ℕ
bytes_among (Bytes bytes) = bytes
bytes_among contents = []

-- the attributes among contents
abbrev pub attrs_among : Contents → List (KeyId × ValueId)
attrs_among (Attrs attrs) = attrs
attrs_among contents = []

-- the names among contents
abbrev pub names_among : Contents → List (NameId × Entry)
names_among (Names names) = names
names_among contents = []

-- the contents, where there are some
abbrev pub or_nothing : Option Contents → Contents
or_nothing None = Nothing
or_nothing (Some contents) = contents

-- what was shown at a position, the oldest first
abbrev pub kept_at : ℕ → List Contents → Contents
kept_at k kept = or_nothing (slice_get kept k)

-- the names that were shown at a position, where one is named
abbrev pub names_by : List Contents → Option ℕ → List (NameId × Entry)
names_by kept None = []
names_by kept (Some k) = names_among (kept_at k kept)

-- the names that were shown at some positions
abbrev pub names_kept : List Contents → List (Option ℕ) → List (List (NameId × Entry))
names_kept kept [] = []
names_kept kept (None ∷ reads) = names_kept kept reads
names_kept kept (Some k ∷ reads) = names_among (kept_at k kept) ∷ names_kept kept reads

-- what a repair carries of what was shown
abbrev pub carried_of : List Contents → Repair → Contents
carried_of kept (CutTo g len) = Nothing
carried_of kept (Copy g at span read) = Bytes (bytes_among (kept_at read kept))
carried_of kept (PutAttrs g read) = Attrs (attrs_among (kept_at read kept))
carried_of kept (PutNames g reads) = Names (merged (names_kept kept reads))

-- a read shows fewer bytes than 32 bits can count
abbrev pub IsShort : Contents → Type 0
IsShort (Bytes bytes) = length bytes < 2 ^ 32
IsShort contents = Unit {0}

-- all stand in order, and are short
abbrev pub AreKept : List Contents → Type 0
AreKept [] = Unit {0}
AreKept (x ∷ kept) = IsInOrder x × IsShort x × AreKept kept

-- the repair of a line that was carried out
abbrev pub repair_in : Line → Option Repair
repair_in (Ask a y (Mend repair) told took) = Some repair
repair_in line = None

-- what the repair of a line carries
abbrev pub carried_for : List Contents → Option Repair → Contents
carried_for kept None = Nothing
carried_for kept (Some repair) = carried_of kept repair

-- whom a line asked, and what
abbrev pub asked_by : Line → Option (BrickId × Request)
asked_by (Ask a y request told took) = Some (y, request)
asked_by line = None

-- these contents are what the repair of a request carries
abbrev pub BringsTo : Past → Request → List Line → Contents → Type 0
BringsTo past (Mend repair) older contents = contents ≡ carried past older repair
BringsTo past request older contents = Unit {0}

-- they are what the repair of a line carries
abbrev pub Brings : Past → Line → List Line → Contents → Type 0
Brings past (Ask a y request told took) older contents = BringsTo past request older contents
Brings past line older contents = Unit {0}
