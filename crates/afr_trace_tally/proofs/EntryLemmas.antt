-- What was shown at each position of a log to those that asked for a name.
use Rattle.std.proofs.Common.{◌≡◌, ◌∙◌, ℕ, suc, ◌==◌, Bool, true, false, List, [], ◌∷◌, ◌++◌, length, ap, sym, refl, Option, Some, None, reverse, slice_get, if◌then◌else◌}
use Rattle.std.specs.BTreeMap.{is_at}
use Rattle.std.specs.Map.{lookup}
use Rattle.std.specs.Prelude.{option_map}
use Rattle.std.proofs.lemmas.List.{reverse-append}
use Rattle.afr_base.specs.declared.ids.Gfid.{Gfid}
use Rattle.afr_base.specs.declared.ids.NameId.{NameId}
use Rattle.afr_lines.specs.Log.{from_oldest}
use Rattle.afr_lines.specs.LogLemmas.{from_oldest-reverse}
use Rattle.afr_lines.specs.declared.line.Line.{Line}
use Rattle.afr_lines.specs.declared.line.Line.TheVariants.{Ask}
use Rattle.afr_lines.specs.declared.request.Request.TheVariants as request
use Rattle.afr_model.specs.Tables.{Past, entry_at, entry_in, held_before}
use Rattle.afr_object.specs.Object.{Object}
use Rattle.afr_object.specs.Tables.{Table, copy_at, name_cmp}
use Rattle.afr_object.specs.declared.entry.Entry.{Entry}
use Rattle.afr_plan.specs.declared.plan.Plan.{Plan}
use Rattle.afr_trace_tables.proofs.BareLaws.{copy_bare}
use Rattle.afr_trace_tables.proofs.PlainLaws.{IsBare, past_bare}
use Rattle.afr_trace_tables.specs.Plain.{bare_object, plain_tables}
use Rattle.afr_trace_tally.specs.Entries.{all_entries, entry_by, entry_shown, or_no_entry}

-- ---- what a brick shows
-- what a read of a name gives is the name's entry
pub read_entry : (g : Gfid) (name : NameId) (t : Table) (entry : Option Entry) → option_map (λ (o : Object). lookup (is_at (name_cmp name)) o.names) (copy_at g t) ≡ Some entry → entry ≡ entry_at g name t
read_entry g name t entry h = by_copy (copy_at g t) h
  where
    by_copy : (o : Option Object) → option_map (λ (o : Object). lookup (is_at (name_cmp name)) o.names) o ≡ Some entry → entry ≡ entry_in name o
    by_copy None e = absurd (cc)
    by_copy (Some o) e = cc

-- an object that isn't there has none
pub no_entry : (g : Gfid) (name : NameId) (t : Table) → copy_at g t ≡ None → entry_at g name t ≡ None
no_entry g name t h = ap (entry_in name) h

-- ---- what was shown at a position
length_entries : (p : Plan) (log : List Line) → length (all_entries p log) ≡ length log
length_entries p [] = refl
length_entries p (line ∷ older) = ap suc (length_entries p older)

-- the entry that a line shows of the tables of the bricks, where there is one
abbrev entry_then : (ℕ → Table) → Option Line → Option Entry
entry_then now (Some line) = entry_by now line
entry_then now None = None

entries_past : (p : Plan) (log : List Line) (k : ℕ) → or_no_entry (from_oldest k (all_entries p log)) ≡ entry_then ((plain_tables p log).past k) (from_oldest k log)
entries_past p [] k = refl
entries_past p (line ∷ older) k = rw (length_entries p older) (split (k == length older) (entries_past p older k))
  where
    split : (t : Bool) → or_no_entry (from_oldest k (all_entries p older)) ≡ entry_then ((plain_tables p older).past k) (from_oldest k older)
        → or_no_entry (if t then Some (entry_by (plain_tables p older).now line) else from_oldest k (all_entries p older))
        ≡ entry_then (λ b. if t then (plain_tables p older).now b else (plain_tables p older).past k b) (if t then Some line else from_oldest k older)
    split true h = refl
    split false h = h

-- the entry of a name in a table without numbers
entry_bare : (name : NameId) (o : Option Object) → entry_in name (option_map bare_object o) ≡ entry_in name o
entry_bare name None = refl
entry_bare name (Some o) = refl

shown_bare : (plain past : Past) → IsBare plain past → (k : ℕ) (line : Option Line) → entry_then (plain k) line ≡ entry_shown past k line
shown_bare plain past h k None = refl
shown_bare plain past h k (Some (Ask a b (request.ReadName g name) told took)) =
    ap (λ (t : Table). entry_at g name t) (h k b.0) ∙ ap (entry_in name) (copy_bare g (past k b.0)) ∙ entry_bare name (copy_at g (past k b.0))
shown_bare plain past h k (Some line) = refl

-- the entry that was kept at a position is what the line there showed
pub entry_is : (p : Plan) (log : List Line) (entries : List (Option Entry)) → reverse entries ≡ all_entries p log → (k : ℕ)
    → or_no_entry (slice_get entries k) ≡ entry_shown (held_before p log) k (from_oldest k log)
entry_is p log entries e k =
    ap or_no_entry (sym (from_oldest-reverse entries k) ∙ ap (from_oldest k) e) ∙ entries_past p log k
    ∙ shown_bare (plain_tables p log).past (held_before p log) (past_bare p log) k (from_oldest k log)

-- one more line
pub entries_more : (p : Plan) (line : Line) (older : List Line) (entries ys : List (Option Entry)) (x : Option Entry) → ys ≡ entries ++ x ∷ [] → x ≡ entry_by (plain_tables p older).now line → reverse entries ≡ all_entries p older
    → reverse ys ≡ all_entries p (line ∷ older)
entries_more p line older entries ys x e here all = rw (e, reverse-append entries (x ∷ []), here, all) refl

-- before the first line
pub no_entries : (p : Plan) (entries : List (Option Entry)) → entries ≡ [] → reverse entries ≡ all_entries p []
no_entries p entries e = rw e refl
