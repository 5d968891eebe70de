-- How a line touches a cell, and what stands in it then.
use Rattle.std.proofs.Common.{ap, ◌≡◌, ℕ, zero, suc, ◌<◌, ◌≤◌, Bool, true, false, ◌&&◌, inl, inr, refl, sym, ◌∙◌, arith, true≢false}
use Rattle.std.specs.Prelude.{Option, None, Some, ◌==◌, if◌then◌else◌, nat_le, nat_lt}
use Rattle.std.proofs.lemmas.Bool.Decides.{nat_tests}
use Rattle.afr_object.specs.declared.change.Repair.{Repair}
use Rattle.afr_lines.specs.declared.request.Request.TheVariants.{Apply, Mend}
use Rattle.afr_lines.specs.declared.answer.Told.{Told}
use Rattle.afr_lines.specs.declared.line.Line.{Line}
use Rattle.afr_lines.specs.declared.line.Line.TheVariants.{Ask}
use Rattle.afr_model_moves.specs.Cells.{Cell, fits, object_of}
use Rattle.afr_model_moves.specs.Past.{Beginning, Tables, tables, after, keep, makes, kind_at, choose, left_by, values, value, last, Log, before, touch, over, stamp, changes, mends, target}
use Rattle.afr_model_moves.specs.Lines.{ask_by}
use Rattle.std.proofs.lemmas.Bool.{cases_lt, eqb-true, ltb-true}
use Rattle.afr_model_moves.proofs.Tests.{three_parts}

-- how a line touches a cell
pub data Touched (files : Beginning) (log : Log) (t b : ℕ) (cell : Cell) : Type 0 where
  Not : touch files log t b cell ≡ 0 → Touched files log t b cell
  Made : (a q : ℕ) (told : Told) → log t ≡ Some (ask_by a b (Apply q) told true) → q < t → changes (log q) cell ≡ true → touch files log t b cell ≡ suc q → Touched files log t b cell
  Mended : (a : ℕ) (repair : Repair) (told : Told) → log t ≡ Some (ask_by a b (Mend repair) told true) → mends repair cell ≡ true → touch files log t b cell ≡ last log t a → Touched files log t b cell

-- a line before t that changes the cell
pub changes_before : (log : Log) (t q : ℕ) (cell : Cell) → changes (before log t q) cell ≡ true → (q < t) × (changes (log q) cell ≡ true)
changes_before log t q cell e = go (nat_lt q t) refl e
  where
    go : (hit : Bool) → nat_lt q t ≡ hit → changes (if hit then log q else None) cell ≡ true → (q < t) × (changes (log q) cell ≡ true)
    go true h k = (ltb-true q t h, k)
    go false h k = absurd (true≢false (sym k))

pub touched : (files : Beginning) (log : Log) (t b : ℕ) (cell : Cell) → Touched files log t b cell
touched files log t b cell = here (fits (kind_at files log t b (object_of cell)) cell) refl
  where
    go : (line : Option Line) → log t ≡ line → fits (kind_at files log t b (object_of cell)) cell ≡ true → Touched files log t b cell
    go (Some (Ask a y (Apply q) told took)) is h = pick ((y.0 == b) && took && changes (before log t q) cell) refl
      where
        pick : (hit : Bool) → ((y.0 == b) && took && changes (before log t q) cell) ≡ hit → Touched files log t b cell
        pick false e = Not (rw (h, is, e) refl)
        pick true e = (
            let w = three_parts (y.0 == b) took (changes (before log t q) cell) e in
            Made a.0 q told (is ∙ (λ i. Some (ask_by a.0 (eqb-true y.0 b w.0 i) (Apply q) told (w.1 i)))) (changes_before log t q cell w.2).0 (changes_before log t q cell w.2).1 (rw (h, is, e) refl)
            )
    go (Some (Ask a y (Mend repair) told took)) is h = pick ((y.0 == b) && took && mends repair cell) refl
      where
        pick : (hit : Bool) → ((y.0 == b) && took && mends repair cell) ≡ hit → Touched files log t b cell
        pick false e = Not (rw (h, is, e) refl)
        pick true e = (
            let w = three_parts (y.0 == b) took (mends repair cell) e in
            Mended a.0 repair told (is ∙ (λ i. Some (ask_by a.0 (eqb-true y.0 b w.0 i) (Mend repair) told (w.1 i)))) w.2 (rw (h, is, e) refl)
            )
    go _ is h = Not (rw (h, is) refl)

    here : (has_it : Bool) → fits (kind_at files log t b (object_of cell)) cell ≡ has_it → Touched files log t b cell
    here true e = go (log t) refl e
    here false e = Not (rw e refl)

pub stamp_next : (files : Beginning) (log : Log) (t b : ℕ) (cell : Cell) → stamp files log (suc t) b cell ≡ over (touch files log t b cell) (stamp files log t b cell)
unfolding stamp
stamp_next files log t b cell = refl

pub stamp_start : (files : Beginning) (log : Log) (b : ℕ) (cell : Cell) → stamp files log 0 b cell ≡ 0
unfolding stamp
stamp_start files log b cell = refl

tables_new : (files : Beginning) (log : Log) (t b : ℕ) → tables files log (suc t) (suc t) b ≡ after files.names (before log t) (last log t) t b (tables files log t) (log t)
unfolding tables
tables_new files log t b = (let no : nat_le (suc t) t ≡ false = grind (arith, nat_tests) in rw no refl)

tables_at : (files : Beginning) (log : Log) (t u b : ℕ) → u ≤ t → tables files log t u b ≡ tables files log u u b
unfolding tables
tables_at files log zero u b h = (let e : u ≡ 0 = omega arith in rw e refl)
tables_at files log (suc t) u b h =
    elim (cases_lt t u) [
      | inl late ↦ (let e : u ≡ suc t = omega arith in rw e refl)
      | inr early ↦ (let yes : nat_le u t ≡ true = grind (arith, nat_tests) in rw yes (tables_at files log t u b early))
    ]

pub value_next : (files : Beginning) (log : Log) (t b : ℕ) (cell : Cell) → value files log (suc t) b cell ≡ choose (touch files log t b cell) (value files log t b cell) (left_by (before log t) (values files log t) (log t) cell)
value_next files log t b cell = ap (λ (k : Tables). k.cells cell) (tables_new files log t b)

pub kind_next : (files : Beginning) (log : Log) (t b g : ℕ) → kind_at files log (suc t) b g ≡ keep (kind_at files log t b g) (if kind_at files log t b (target (before log t) (log t)) == 0 then 0 else makes files.names (before log t) (values files log t) b g (log t))
kind_next files log t b g = ap (λ (k : Tables). k.kinds g) (tables_new files log t b)

-- what was shown at a position is the value then
pub values_at : (files : Beginning) (log : Log) (t u b : ℕ) (cell : Cell) → u ≤ t → values files log t u b cell ≡ value files log u b cell
values_at files log t u b cell h = ap (λ (k : Tables). k.cells cell) (tables_at files log t u b h)

pub begin_cells : (files : Beginning) (log : Log) (u b : ℕ) (cell : Cell) → values files log 0 u b cell ≡ files.cells cell
unfolding tables
begin_cells files log u b cell = refl

pub begin_kinds : (files : Beginning) (log : Log) (b g : ℕ) → kind_at files log 0 b g ≡ files.kinds g
unfolding tables
begin_kinds files log b g = refl
