-- One cell: where a counted attempt was done, what it or a later attempt left stays.
use Rattle.std.proofs.Common.{◌≡◌, ℕ, zero, suc, ◌<◌, ◌≤◌, true, refl, ◌∙◌, arith}
use Rattle.std.specs.Prelude.{Option}
use Rattle.afr_lines.specs.declared.fault.Fault.{Fault}
use Rattle.afr_model_moves.specs.Cells.{Cell, fits, is_cell, kind_of, object_of}
use Rattle.afr_model_moves.specs.Honest.{Honest}
use Rattle.afr_model_moves.specs.Past.{Beginning, Log, born, changes, leaves_of, touch, value}
use Rattle.afr_model_moves.specs.Rules.{Lawful}
use Rattle.afr_law.proofs.Safety.CellHistory.{copy_keeps}
use Rattle.afr_law.proofs.Safety.CellLemmas.{CountsAt, IsOriginAt, leaves_at}
use Rattle.afr_law.proofs.Safety.Touches.{stamp_next}

module _ (n : ℕ) (files : Beginning) (faults : ℕ → ℕ → Option Fault) (log : Log) (honest : Honest files faults log) (lawful : Lawful n files.keeps log) (cell : Cell) (real : is_cell cell ≡ true) (fit : fits (born files log (object_of cell)) cell ≡ true) where
  -- what a counted attempt put on a copy stays there, or something later
  pub stays : (t b q m : ℕ) → files.keeps b (kind_of cell) ≡ true → CountsAt n files log cell q → m < t → touch files log m b cell ≡ suc q
      → (from : ℕ) × (q ≤ from) × (from < t) × (changes (log from) cell ≡ true) × (value files log t b cell ≡ leaves_of (log from) cell)
  stays t b q m copy counts past put =
      let o = copy_keeps n files faults log honest lawful cell real fit t b q m copy counts past (stamp_next files log m b cell ∙ rw put refl) in
      by (o.0) o.1 o.2 o.3
    where
      by : (from : ℕ) → IsOriginAt log cell t from → value files log t b cell ≡ leaves_at files log cell from → q < from
          → (f : ℕ) × (q ≤ f) × (f < t) × (changes (log f) cell ≡ true) × (value files log t b cell ≡ leaves_of (log f) cell)
      by zero legal same less = absurd (omega (arith, less))
      by (suc f) legal same less = (f, omega (arith, less), legal.0, legal.1, same)
