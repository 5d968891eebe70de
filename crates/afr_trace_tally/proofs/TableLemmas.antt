-- What the tables without numbers say of those with numbers.
use Rattle.std.proofs.Common.{◌≡◌, ◌∙◌, ℕ, Bool, not, List, Option, Some, None, refl, ap, sym, subst, map, reverse}
use Rattle.std.specs.Prelude.{is_some, option_map}
use Rattle.afr_base.specs.declared.ids.Gfid.{Gfid}
use Rattle.afr_lines.specs.Log.{from_oldest}
use Rattle.afr_lines.specs.declared.line.Line.{Line}
use Rattle.afr_model.specs.Sums.{has_object}
use Rattle.afr_model.specs.Tables.{bytes_shown, held_before, holds, names_shown}
use Rattle.afr_object.specs.Object.{Object}
use Rattle.afr_object.specs.Tables.{Table, copy_at, view_of}
use Rattle.afr_object.specs.Repairs.{Contents}
use Rattle.afr_object.specs.declared.entry.View.{View}
use Rattle.afr_plan.specs.declared.plan.Plan.{Plan}
use Rattle.afr_trace_tally.proofs.ContentLemmas.{list_is, read_is, short_at}
use Rattle.afr_trace_tally.specs.Contents.{AreKept, IsShort, all_shown, bytes_among, contents_seen, kept_at, names_among}
use Rattle.afr_trace_tally.specs.declared.contents.Kept.{Kept}
use Rattle.afr_trace_tables.proofs.BareLaws.{copy_bare}
use Rattle.afr_trace_tables.proofs.PlainLaws.{bytes_plain, names_plain, now_bare, past_bare}
use Rattle.afr_trace_tables.specs.Plain.{bare_object, plain_tables}

-- a look finds what the brick has
pub there : (p : Plan) (log : List Line) (g : Gfid) (b : ℕ) → is_some (option_map view_of (copy_at g ((plain_tables p log).now b))) ≡ has_object p log g b
there p log g b =
    ap (λ (t : Table). is_some (option_map view_of (copy_at g t))) (now_bare p log b) ∙ ap (λ (o : Option Object). is_some (option_map view_of o)) (copy_bare g (holds p log b)) ∙ by_copy (copy_at g (holds p log b))
  where
    by_copy : (o : Option Object) → is_some (option_map view_of (option_map bare_object o)) ≡ is_some o
    by_copy None = refl
    by_copy (Some o) = refl

-- so does a test for none
pub found_it : (p : Plan) (log : List Line) (g : Gfid) (b : ℕ) (t : Table) (o : Option View) (none : Bool) → t ≡ (plain_tables p log).now b → o ≡ option_map view_of (copy_at g t) → is_some o ≡ not none → has_object p log g b ≡ not none
found_it p log g b t o none e h is =
    sym (there p log g b) ∙ ap (λ (u : Table). is_some (option_map view_of (copy_at g u))) (sym e) ∙ ap (λ (v : Option View). is_some v) (sym h) ∙ is

-- a read shows the same bytes
pub bytes_past : (p : Plan) (log : List Line) (k : ℕ) → bytes_shown (plain_tables p log).past k (from_oldest k log) ≡ bytes_shown (held_before p log) k (from_oldest k log)
bytes_past p log k = bytes_plain (plain_tables p log).past (held_before p log) (past_bare p log) k (from_oldest k log)

-- so it does the same names
pub names_past : (p : Plan) (log : List Line) (k : ℕ) → names_shown (plain_tables p log).past k (from_oldest k log) ≡ names_shown (held_before p log) k (from_oldest k log)
names_past p log k = names_plain (plain_tables p log).past (held_before p log) (past_bare p log) k (from_oldest k log)

-- ---- what was kept, in the code's slice
-- the bytes at a position are those that its line showed
pub bytes_told : (p : Plan) (log : List Line) (kept slice : List Kept) (k : ℕ) (x : Contents) → slice ≡ kept → reverse (map contents_seen kept) ≡ all_shown p log → x ≡ kept_at k (map contents_seen slice)
    → bytes_among x ≡ bytes_shown (held_before p log) k (from_oldest k log)
bytes_told p log kept slice k x e all here =
    ap bytes_among (here ∙ ap (λ (w : List Kept). kept_at k (map contents_seen w)) e) ∙ read_is p log (map contents_seen kept) all k ∙ bytes_past p log k

-- so are the names
pub names_told : (p : Plan) (log : List Line) (kept slice : List Kept) (k : ℕ) (x : Contents) → slice ≡ kept → reverse (map contents_seen kept) ≡ all_shown p log → x ≡ kept_at k (map contents_seen slice)
    → names_among x ≡ names_shown (held_before p log) k (from_oldest k log)
names_told p log kept slice k x e all here =
    ap names_among (here ∙ ap (λ (w : List Kept). kept_at k (map contents_seen w)) e) ∙ list_is p log (map contents_seen kept) all k ∙ names_past p log k

-- they are short
pub short_told : (kept slice : List Kept) (k : ℕ) (x : Contents) → slice ≡ kept → AreKept (map contents_seen kept) → x ≡ kept_at k (map contents_seen slice) → IsShort x
short_told kept slice k x e all here = subst IsShort (sym (here ∙ ap (λ (w : List Kept). kept_at k (map contents_seen w)) e)) (short_at (map contents_seen kept) k all)
