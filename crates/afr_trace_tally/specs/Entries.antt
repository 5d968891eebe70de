-- Which entry each line showed that asked for a name.
use Rattle.std.specs.Prelude.{ℕ, List, [], ◌∷◌, Option, Some, None}
use Rattle.afr_lines.specs.declared.line.Line.{Line}
use Rattle.afr_lines.specs.declared.line.Line.TheVariants.{Ask}
use Rattle.afr_lines.specs.declared.request.Request.{Request}
use Rattle.afr_lines.specs.declared.request.Request.TheVariants.{ReadName}
use Rattle.afr_model.specs.Tables.{Past, entry_at}
use Rattle.afr_object.specs.Tables.{Table}
use Rattle.afr_object.specs.declared.entry.Entry.{Entry}
use Rattle.afr_plan.specs.declared.plan.Plan.{Plan}
use Rattle.afr_trace_tables.specs.Plain.{plain_tables}

-- the entry that a request shows of these tables
abbrev pub entry_of : Request → Table → Option Entry
entry_of (ReadName g name) t = entry_at g name t
entry_of request t = None

-- the entry that a line shows of the tables of the bricks
abbrev pub entry_by : (ℕ → Table) → Line → Option Entry
entry_by now (Ask a y request told took) = entry_of request (now y.0)
entry_by now line = None

-- the entry that each line of a log showed, the newest first
abbrev pub all_entries : Plan → List Line → List (Option Entry)
all_entries p [] = []
all_entries p (line ∷ older) = entry_by (plain_tables p older).now line ∷ all_entries p older

-- the entry that a line of the past showed
abbrev pub entry_shown : Past → ℕ → Option Line → Option Entry
entry_shown past k (Some (Ask a b (ReadName g name) told took)) = entry_at g name (past k b.0)
entry_shown past k line = None

-- an entry, where something stands
abbrev pub or_no_entry : Option (Option Entry) → Option Entry
or_no_entry None = None
or_no_entry (Some entry) = entry
