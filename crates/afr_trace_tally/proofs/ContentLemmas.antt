-- What was shown at each position of a log, and what a repair carries of it.
use Rattle.std.proofs.Common.{◌≡◌, ◌∙◌, ℕ, zero, suc, ◌<◌, ◌==◌, Bool, true, false, List, [], ◌∷◌, ◌++◌, length, drop, get_or, ap, sym, refl, arith, Option, Some, None, reverse, slice_get, if◌then◌else◌}
use Rattle.std.specs.BTreeMap.{is_at, insert_entry}
use Rattle.std.specs.List.Sorted.{IsStrictlySortedBy}
use Rattle.std.specs.Map.{lookup}
use Rattle.std.specs.declared.cmp.Ordering.{Ordering}
use Rattle.afr_base.specs.declared.ids.KeyId.{KeyId}
use Rattle.afr_base.specs.declared.ids.NameId.{NameId}
use Rattle.afr_base.specs.declared.ids.ValueId.{ValueId}
use Rattle.afr_lines.specs.Log.{from_oldest}
use Rattle.afr_lines.specs.LogLemmas.{from_oldest-reverse}
use Rattle.afr_lines.specs.declared.line.Line.{Line}
use Rattle.afr_lines.specs.declared.line.Line.TheVariants.{Ask}
use Rattle.afr_lines.specs.declared.request.Request.TheVariants as request
use Rattle.afr_model.specs.Tables.{Past, all_names_shown, attrs_shown, bytes_shown, carried, names_shown}
use Rattle.afr_object.specs.Repairs.{Contents, Nothing, Bytes, Attrs, Names, higher, merged, merged_into}
use Rattle.afr_object.specs.State.{IsInOrder}
use Rattle.afr_object.specs.Tables.{Table, name_cmp}
use Rattle.afr_object.specs.declared.change.Repair.{Repair}
use Rattle.afr_object.specs.declared.change.Repair.TheVariants.{CutTo, Copy, PutAttrs, PutNames}
use Rattle.afr_object.specs.declared.entry.Entry.{Entry}
use Rattle.afr_plan.specs.declared.plan.Plan.{Plan}
use Rattle.afr_trace_tables.specs.Plain.{plain_tables}
use Rattle.afr_trace_tally.specs.Contents.{AreKept, Brings, IsShort, all_shown, attrs_among, bytes_among, carried_for, carried_of, kept_at, names_among, names_by, names_kept, or_nothing, repair_in, shown_at}

-- ---- order
-- no entries are in order
pub none_in_order : {K : Type 0} (cmp : K → K → Ordering) → IsStrictlySortedBy cmp []
unfolding IsStrictlySortedBy
none_in_order cmp = tt

pub in_order_at : (kept : List Contents) (k : ℕ) → AreKept kept → IsInOrder (kept_at k kept)
in_order_at [] k h = tt
in_order_at (x ∷ kept) zero h = h.0
in_order_at (x ∷ kept) (suc k) h = in_order_at kept k h.2

pub short_at : (kept : List Contents) (k : ℕ) → AreKept kept → IsShort (kept_at k kept)
short_at [] k h = tt
short_at (x ∷ kept) zero h = h.1
short_at (x ∷ kept) (suc k) h = short_at kept k h.2

pub kept_push : (kept : List Contents) (x : Contents) → AreKept kept → IsInOrder x → IsShort x → AreKept (kept ++ x ∷ [])
kept_push [] x h i s = (i, s, tt)
kept_push (y ∷ kept) x h i s = (h.0, h.1, kept_push kept x h.2 i s)

-- ---- merged names
-- one name more is merged
pub merged_into_step : (old names : List (NameId × Entry)) (k : ℕ) (x : NameId × Entry) → slice_get names k ≡ Some x
    → merged_into old (drop k names) ≡ insert_entry name_cmp (merged_into old (drop (suc k) names)) x.0 (higher x.1 (lookup (is_at (name_cmp x.0)) (merged_into old (drop (suc k) names))))
merged_into_step old [] k x e = absurd (cc)
merged_into_step old (y ∷ names) zero x e = let same : y ≡ x = cc in rw same refl
merged_into_step old (y ∷ names) (suc k) x e = merged_into_step old names k x e

-- the names of one line more are merged
pub merged_read : (kept : List Contents) (reads : List (Option ℕ)) (k : ℕ) → k < length reads
    → merged (names_kept kept (drop k reads)) ≡ merged_into (merged (names_kept kept (drop (suc k) reads))) (names_by kept (get_or reads k None))
merged_read kept [] k l = absurd (omega (arith, l))
merged_read kept (None ∷ reads) zero l = refl
merged_read kept (Some r ∷ reads) zero l = refl
merged_read kept (x ∷ reads) (suc k) l = merged_read kept reads k (omega (arith, l))

-- ---- what was shown
-- what a line shows of the tables of the bricks, where there is one
abbrev shown_then : (ℕ → Table) → Option Line → Contents
shown_then now (Some line) = shown_at now line
shown_then now None = Nothing

-- what a line showed of the past
abbrev shown_by : Past → ℕ → Option Line → Contents
shown_by past k line = shown_then (past k) line

length_shown : (p : Plan) (log : List Line) → length (all_shown p log) ≡ length log
length_shown p [] = refl
length_shown p (line ∷ older) = ap suc (length_shown p older)

shown_past : (p : Plan) (log : List Line) (k : ℕ) → or_nothing (from_oldest k (all_shown p log)) ≡ shown_by (plain_tables p log).past k (from_oldest k log)
shown_past p [] k = refl
shown_past p (line ∷ older) k = rw (length_shown p older) (split (k == length older) (shown_past p older k))
  where
    split : (t : Bool) → or_nothing (from_oldest k (all_shown p older)) ≡ shown_then ((plain_tables p older).past k) (from_oldest k older)
        → or_nothing (if t then Some (shown_at (plain_tables p older).now line) else from_oldest k (all_shown p older))
        ≡ shown_then (λ b. if t then (plain_tables p older).now b else (plain_tables p older).past k b) (if t then Some line else from_oldest k older)
    split true h = refl
    split false h = h

-- what was kept at a position is what the line there showed
kept_is : (p : Plan) (log : List Line) (kept : List Contents) → reverse kept ≡ all_shown p log → (k : ℕ) → kept_at k kept ≡ shown_by (plain_tables p log).past k (from_oldest k log)
kept_is p log kept e k = ap or_nothing (sym (from_oldest-reverse kept k) ∙ ap (from_oldest k) e) ∙ shown_past p log k

bytes_are : (past : Past) (k : ℕ) (line : Option Line) → bytes_among (shown_by past k line) ≡ bytes_shown past k line
bytes_are past k (Some (Ask a y (request.ReadBytes g at len) told took)) = refl
bytes_are past k line = refl

attrs_are : (past : Past) (k : ℕ) (line : Option Line) → attrs_among (shown_by past k line) ≡ attrs_shown past k line
attrs_are past k (Some (Ask a y (request.ReadAttrs g) told took)) = refl
attrs_are past k line = refl

names_are : (past : Past) (k : ℕ) (line : Option Line) → names_among (shown_by past k line) ≡ names_shown past k line
names_are past k (Some (Ask a y (request.List g) told took)) = refl
names_are past k line = refl

all_names_are : (p : Plan) (log : List Line) (kept : List Contents) → reverse kept ≡ all_shown p log → (reads : List (Option ℕ)) → names_kept kept reads ≡ all_names_shown (plain_tables p log).past log reads
all_names_are p log kept e [] = refl
all_names_are p log kept e (None ∷ reads) = all_names_are p log kept e reads
all_names_are p log kept e (Some k ∷ reads) =
    let first : names_among (kept_at k kept) ≡ names_shown (plain_tables p log).past k (from_oldest k log) = ap names_among (kept_is p log kept e k) ∙ names_are (plain_tables p log).past k (from_oldest k log) in
    rw (first, all_names_are p log kept e reads) refl

-- what a repair carries of what was kept is what it carries
pub carried_is : (p : Plan) (log : List Line) (kept : List Contents) → reverse kept ≡ all_shown p log → (repair : Repair) → carried_of kept repair ≡ carried (plain_tables p log).past log repair
carried_is p log kept e (CutTo g len) = refl
carried_is p log kept e (Copy g at span read) = ap (λ (bytes : List ℕ). Bytes bytes) (ap bytes_among (kept_is p log kept e read) ∙ bytes_are (plain_tables p log).past read (from_oldest read log))
carried_is p log kept e (PutAttrs g read) = ap (λ (attrs : List (KeyId × ValueId)). Attrs attrs) (ap attrs_among (kept_is p log kept e read) ∙ attrs_are (plain_tables p log).past read (from_oldest read log))
carried_is p log kept e (PutNames g reads) = ap (λ (names : List (List (NameId × Entry))). Names (merged names)) (all_names_are p log kept e reads)

-- so does the repair of a line
pub brings : (p : Plan) (line : Line) (older : List Line) (kept : List Contents) (c : Contents) → reverse kept ≡ all_shown p older → c ≡ carried_for kept (repair_in line) → Brings (plain_tables p older).past line older c
brings p (Ask a y (request.Mend repair) told took) older kept c e is = is ∙ carried_is p older kept e repair
brings p (Ask a y other told took) older kept c e is = tt
brings p line older kept c e is = tt

-- how many bytes a read showed
pub read_is : (p : Plan) (log : List Line) (kept : List Contents) → reverse kept ≡ all_shown p log → (k : ℕ) → bytes_among (kept_at k kept) ≡ bytes_shown (plain_tables p log).past k (from_oldest k log)
read_is p log kept e k = ap bytes_among (kept_is p log kept e k) ∙ bytes_are (plain_tables p log).past k (from_oldest k log)

-- the names that a list showed
pub list_is : (p : Plan) (log : List Line) (kept : List Contents) → reverse kept ≡ all_shown p log → (k : ℕ) → names_among (kept_at k kept) ≡ names_shown (plain_tables p log).past k (from_oldest k log)
list_is p log kept e k = ap names_among (kept_is p log kept e k) ∙ names_are (plain_tables p log).past k (from_oldest k log)
