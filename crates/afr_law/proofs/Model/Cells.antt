-- Cells, values and acknowledgements by positions are those of the model.
use Rattle.std.proofs.Common.{◌≡◌, ℕ, ◌+◌, ◌<◌, ◌≤◌, ◌^◌, Bool, true, false, ◌&&◌, inl, inr, refl, sym, ◌∙◌, ap, arith, List, [], ◌∷◌, length, Option, None, Some, ◌==◌, if◌then◌else◌, true≢false}
use Rattle.std.specs.Prelude.{nat_le, nat_lt}
use Rattle.std.specs.Option.{option_map}
use Rattle.std.proofs.lemmas.Bool.Decides.{nat_tests}
use Rattle.afr_base.specs.declared.ids.ValueId.{ValueId}
use Rattle.afr_object.specs.declared.change.Change.{Change}
use Rattle.afr_object.specs.declared.change.Change.TheVariants.{Write, Cut, SetAttr, Make, Remove}
use Rattle.afr_object.specs.declared.entry.Entry.{Entry as NameEntry}
use Rattle.afr_object.specs.Object.{Object}
use Rattle.afr_lines.specs.Log.{from_oldest}
use Rattle.afr_lines.specs.Work.{reply_by}
use Rattle.afr_lines.specs.declared.line.Line.{Line}
use Rattle.afr_lines.specs.declared.line.Line.TheVariants.{Ask, Begin, HealBegin, End, HealEnd, Event}
use Rattle.afr_lines.specs.declared.reply.Reply.{Reply}
use Rattle.afr_model.specs.Attempts.{first_reply, earlier, IsAcknowledged}
use Rattle.afr_model.specs.Cells.{Value, IsByte, IsAttr, IsEntry, value_if, object_of_cell, kind_of_cell}
use Rattle.afr_model.specs.Cells as model
use Rattle.afr_model_moves.specs.Cells.{object_of, kind_of, entry_code, is_cell, touches, leaves}
use Rattle.afr_law_tables.specs.Codes.{value_code, cell_by, cell_of}
use Rattle.afr_model_moves.specs.Lines.{is_ok}
use Rattle.afr_law_tables.proofs.Entries.{entry_same, entry_some}
use Rattle.afr_model_moves.specs.Past.{Log}
use Rattle.afr_model_moves.proofs.ByPosition.{IsPast, past_at, none_at}
use Rattle.afr_law.specs.Safe.{end_of, or_else, outcome, Acknowledged}
use Rattle.std.proofs.lemmas.Bool.{cases_lt, ltb-false}
use Rattle.afr_model_moves.proofs.Tests.{what_same}

-- ---- cells
pub kind_cell : (cell : model.Cell) → kind_of (cell_of cell) ≡ kind_of_cell cell
kind_cell (model.Byte g i) = refl
kind_cell (model.Attr g key) = refl
kind_cell (model.Name g name) = refl

pub object_cell : (cell : model.Cell) → object_of (cell_of cell) ≡ (object_of_cell cell).0
object_cell (model.Byte g i) = refl
object_cell (model.Attr g key) = refl
object_cell (model.Name g name) = refl

pub cell_back : (cell : model.Cell) → cell_by (cell_of cell) ≡ cell
cell_back (model.Byte g i) = refl
cell_back (model.Attr g key) = refl
cell_back (model.Name g name) = refl

group_write : (s a b c : Bool) → c ≡ true → (s && a && b && c) ≡ (s && (a && b))
group_write s a b true e = grind arith
group_write s a b false e = absurd (true≢false (sym e))

group_cut : (s a c : Bool) → c ≡ true → (s && a && c) ≡ (s && a)
group_cut s a true e = grind arith
group_cut s a false e = absurd (true≢false (sym e))

-- a change touches the same cells
pub touches_same : (change : Change) (cell : model.Cell) → is_cell (cell_of cell) ≡ true → touches change (cell_of cell) ≡ model.touches change cell
unfolding touches
touches_same (Write g at bytes) (model.Byte h i) real = group_write (g.0 == h.0) (nat_le at i) (nat_lt i (at + length bytes)) (nat_lt i (2 ^ 63)) real
touches_same (Write g at bytes) (model.Attr h k) real = refl
touches_same (Write g at bytes) (model.Name h n) real = refl
touches_same (Cut g len) (model.Byte h i) real = group_cut (g.0 == h.0) (nat_le len i) (nat_lt i (2 ^ 63)) real
touches_same (Cut g len) (model.Attr h k) real = refl
touches_same (Cut g len) (model.Name h n) real = refl
touches_same (SetAttr g key value) (model.Byte h i) real = refl
touches_same (SetAttr g key value) (model.Attr h k) real = refl
touches_same (SetAttr g key value) (model.Name h n) real = refl
touches_same (Make dir name g what) (model.Byte h i) real = refl
touches_same (Make dir name g what) (model.Attr h k) real = refl
touches_same (Make dir name g what) (model.Name h n) real = refl
touches_same (Remove dir name what) (model.Byte h i) real = refl
touches_same (Remove dir name what) (model.Attr h k) real = refl
touches_same (Remove dir name what) (model.Name h n) real = refl

-- and leaves the same there
pub leaves_same : (change : Change) (cell : model.Cell) → leaves change (cell_of cell) ≡ value_code (model.leaves change cell)
unfolding leaves
leaves_same (Write g at bytes) (model.Byte h i) = refl
leaves_same (Write g at bytes) (model.Attr h k) = refl
leaves_same (Write g at bytes) (model.Name h n) = refl
leaves_same (Cut g len) (model.Byte h i) = refl
leaves_same (Cut g len) (model.Attr h k) = refl
leaves_same (Cut g len) (model.Name h n) = refl
leaves_same (SetAttr g key value) (model.Byte h i) = refl
leaves_same (SetAttr g key value) (model.Attr h k) = refl
leaves_same (SetAttr g key value) (model.Name h n) = refl
leaves_same (Make dir name g what) (model.Byte h i) = refl
leaves_same (Make dir name g what) (model.Attr h k) = refl
leaves_same (Make dir name g what) (model.Name h n) = refl
leaves_same (Remove dir name what) (model.Byte h i) = refl
leaves_same (Remove dir name what) (model.Attr h k) = refl
leaves_same (Remove dir name what) (model.Name h n) = refl

-- ---- values
-- a value of a cell's sort
abbrev pub IsOf : model.Cell → Value → Type 0
IsOf (model.Byte g i) (IsByte n) = Unit {0}
IsOf (model.Attr g key) (IsAttr v) = Unit {0}
IsOf (model.Name g name) (IsEntry e) = Unit {0}
IsOf cell value = ⊥

pub value_sort : (cell : model.Cell) (o : Option Object) → IsOf cell (value_if cell o)
value_sort (model.Byte g i) None = tt
value_sort (model.Byte g i) (Some o) = tt
value_sort (model.Attr g key) None = tt
value_sort (model.Attr g key) (Some o) = tt
value_sort (model.Name g name) None = tt
value_sort (model.Name g name) (Some o) = tt

pub leaves_sort : (change : Change) (cell : model.Cell) → IsOf cell (model.leaves change cell)
leaves_sort (Write g at bytes) (model.Byte h i) = tt
leaves_sort (Write g at bytes) (model.Attr h k) = tt
leaves_sort (Write g at bytes) (model.Name h n) = tt
leaves_sort (Cut g len) (model.Byte h i) = tt
leaves_sort (Cut g len) (model.Attr h k) = tt
leaves_sort (Cut g len) (model.Name h n) = tt
leaves_sort (SetAttr g key value) (model.Byte h i) = tt
leaves_sort (SetAttr g key value) (model.Attr h k) = tt
leaves_sort (SetAttr g key value) (model.Name h n) = tt
leaves_sort (Make dir name g what) (model.Byte h i) = tt
leaves_sort (Make dir name g what) (model.Attr h k) = tt
leaves_sort (Make dir name g what) (model.Name h n) = tt
leaves_sort (Remove dir name what) (model.Byte h i) = tt
leaves_sort (Remove dir name what) (model.Attr h k) = tt
leaves_sort (Remove dir name what) (model.Name h n) = tt

value_is : (v w : ValueId) → v.0 + 1 ≡ w.0 + 1 → v ≡ w
value_is v w e = (let same : v.0 ≡ w.0 = omega (arith, e) in ap (λ (n : ℕ). record { 0 = n }) same)

entry_is : (v w : NameEntry) → entry_code v.gfid.0 v.what ≡ entry_code w.gfid.0 w.what → v ≡ w
entry_is v w e =
    let s = entry_same v.gfid.0 w.gfid.0 v.what w.what e in
    let t : v.what ≡ w.what = what_same v.what w.what s.1 in
    λ i. record { gfid = record { 0 = s.0 i }; what = t i }

-- two values of a cell with one number are the same
pub code_same : (cell : model.Cell) (v w : Value) → IsOf cell v → IsOf cell w → value_code v ≡ value_code w → v ≡ w
code_same (model.Byte g i) (IsByte n) (IsByte m) p q e = ap IsByte e
code_same (model.Attr g key) (IsAttr None) (IsAttr None) p q e = refl
code_same (model.Attr g key) (IsAttr None) (IsAttr (Some w)) p q e = absurd (omega (arith, e))
code_same (model.Attr g key) (IsAttr (Some v)) (IsAttr None) p q e = absurd (omega (arith, e))
code_same (model.Attr g key) (IsAttr (Some v)) (IsAttr (Some w)) p q e = ap (λ (x : ValueId). IsAttr (Some x)) (value_is v w e)
code_same (model.Name g name) (IsEntry None) (IsEntry None) p q e = refl
code_same (model.Name g name) (IsEntry None) (IsEntry (Some w)) p q e = absurd (entry_some w.gfid.0 w.what (sym e))
code_same (model.Name g name) (IsEntry (Some v)) (IsEntry None) p q e = absurd (entry_some v.gfid.0 v.what e)
code_same (model.Name g name) (IsEntry (Some v)) (IsEntry (Some w)) p q e = ap (λ (x : NameEntry). IsEntry (Some x)) (entry_is v w e)
code_same (model.Byte g i) (IsAttr v) w p q e = absurd p
code_same (model.Byte g i) (IsEntry v) w p q e = absurd p
code_same (model.Byte g i) (IsByte n) (IsAttr w) p q e = absurd q
code_same (model.Byte g i) (IsByte n) (IsEntry w) p q e = absurd q
code_same (model.Attr g key) (IsByte n) w p q e = absurd p
code_same (model.Attr g key) (IsEntry v) w p q e = absurd p
code_same (model.Attr g key) (IsAttr v) (IsByte m) p q e = absurd q
code_same (model.Attr g key) (IsAttr v) (IsEntry w) p q e = absurd q
code_same (model.Name g name) (IsByte n) w p q e = absurd p
code_same (model.Name g name) (IsAttr v) w p q e = absurd p
code_same (model.Name g name) (IsEntry v) (IsByte m) p q e = absurd q
code_same (model.Name g name) (IsEntry v) (IsAttr w) p q e = absurd q

-- ---- acknowledgements
-- the reply since an attempt, as whether it says ok
pub outcome_is : (L : Log) (a q : ℕ) (older : List Line) → IsPast L older → outcome L (length older) a q ≡ option_map is_ok (first_reply a q older)
unfolding outcome
outcome_is L a q [] h = refl
outcome_is L a q (line ∷ older) h = (λ i. or_else (outcome_is L a q older h.1 i) (if nat_lt q (length older) then end_of a (h.0 i) else None)) ∙ go (nat_lt q (length older)) refl
  where
    after : (line : Line) → end_of a (Some line) ≡ option_map is_ok (reply_by a line)
    after (End x reply) = pick (x.0 == a)
      where
        pick : (mine : Bool) → (if mine then Some (is_ok reply) else None) ≡ option_map is_ok (if mine then Some reply else None)
        pick true = refl
        pick false = refl
    after (Ask x b r told took) = refl
    after (Begin x c) = refl
    after (HealBegin x g kind) = refl
    after (HealEnd x g kind reply) = refl
    after (Event e) = refl

    either : (one other : Option Reply) → or_else (option_map is_ok one) (option_map is_ok other) ≡ option_map is_ok (earlier one other)
    either None other = refl
    either (Some reply) other = refl

    early : (older : List Line) → length older ≤ q → first_reply a q older ≡ None
    early [] low = refl
    early (x ∷ older) low = (let no : nat_lt q (length older) ≡ false = grind (arith, nat_tests) in rw no refl)

    go : (since : Bool) → nat_lt q (length older) ≡ since → or_else (option_map is_ok (first_reply a q older)) (if since then end_of a (Some line) else None) ≡ option_map is_ok (if since then earlier (first_reply a q older) (reply_by a line) else None)
    go true e = ap (or_else (option_map is_ok (first_reply a q older))) (after line) ∙ either (first_reply a q older) (reply_by a line)
    go false e = rw (early older (ltb-false q (length older) e)) refl

-- a position with a line is one of the list's
pub below_length : (older : List Line) (q : ℕ) (line : Line) → from_oldest q older ≡ Some line → q < length older
below_length older q line e = elim (cases_lt q (length older)) [ inl low ↦ low | inr high ↦ absurd (cc (none_at older q high, e)) ]

-- an attempt that is acknowledged is so by positions
pub acknowledged_is : (L : Log) (older : List Line) → IsPast L older → (k : ℕ) → (w : IsAcknowledged older k) → Acknowledged L (length older) k
acknowledged_is L older h k w =
    let low = below_length older k (Begin w.actor w.change) w.begun in
    record {
      a = w.actor.0;
      change = w.change;
      is = past_at L older h k low ∙ w.begun;
      past = low;
      ok = outcome_is L w.actor.0 k older h ∙ ap (option_map is_ok) w.replied;
    }
